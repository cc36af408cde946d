use Rattle.std.proofs.Common.{◌≡◌, ℕ, refl, rules, ap}
use Rattle.std.specs.Ordering.{nat_cmp}
use Rattle.std.proofs.lemmas.Cmp.{nat_cmp_total}
use Rattle.class_form.proofs.Indices.{index_in}
use Rattle.class_form.specs.declared.body.Body.{Body}
use Rattle.slicer_ids.specs.declared.ids.MethodId.{MethodId}
use Rattle.dep_form.proofs.Searching.{found_by, missed_by, one_number}
use Rattle.node_tables.proofs.Calls.{compares_equal}
use Rattle.input_tables.proofs.points.find_body.Goals as goal

pub returns-in-Ok : goal.returns-in-Ok
returns-in-Ok c =
    let h = found_by nat_cmp nat_cmp_total (λ (b : Body). b.method.0) _ c.args.bodies.now c.args.m.0 c.in-Ok.k refl (λ a r f' k. search rules) c.in-Ok.ensures.bound c.in-Ok.ensures.position in
    (h.0, h.1, ap (λ (n : ℕ). record { 0 = n }) (one_number h.0.method.0 c.args.m.0 h.2))

pub returns-in-Err : goal.returns-in-Err
returns-in-Err c = λ b among e.
    let i = index_in c.args.bodies.now b among in
    missed_by nat_cmp nat_cmp_total (λ (b : Body). b.method.0) _ c.args.bodies.now c.args.m.0 _ refl (λ a r f' k. search rules) c.requires c.in-Err.ensures.position i.0 b i.1 (compares_equal b.method.0 c.args.m.0 (ap (λ (m : MethodId). m.0) e))
