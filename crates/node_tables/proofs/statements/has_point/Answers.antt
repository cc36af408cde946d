use Rattle.std.proofs.Common.{◌≡◌, refl, rules}
use Rattle.std.specs.Ordering.{nat_cmp}
use Rattle.std.proofs.lemmas.Cmp.{nat_cmp_total, tied_itself}
use Rattle.class_form.proofs.Indices.{index_in, there_at}
use Rattle.class_form.specs.declared.body.Point.{Point}
use Rattle.dep_form.proofs.Searching.{found_by, missed_by, one_number}
use Rattle.node_tables.proofs.Calls.{compares_equal}
use Rattle.node_tables.proofs.statements.has_point.Goals as goal

pub returns-in-Ok : goal.returns-in-Ok
returns-in-Ok c =
    let h = found_by nat_cmp nat_cmp_total (λ (t : Point). t.pc) _ c.args.points.now c.args.pc c.in-Ok.field-0 refl (λ a r f' k. search rules) c.in-Ok.ensures.bound c.in-Ok.ensures.position in
    (λ e. (h.0, there_at c.args.points.now c.in-Ok.field-0 h.0 h.1, one_number h.0.pc c.args.pc h.2), λ w. refl)

pub returns-in-Err : goal.returns-in-Err
returns-in-Err c = (
  λ e. absurd (cc e),
  λ w.
      let i = index_in c.args.points.now w.0 w.1 in
      absurd (missed_by nat_cmp nat_cmp_total (λ (t : Point). t.pc) _ c.args.points.now c.args.pc _ refl (λ a r f' k. search rules) c.requires c.in-Err.ensures.position i.0 w.0 i.1 (compares_equal w.0.pc c.args.pc w.2)),
)
