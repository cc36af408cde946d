use Rattle.std.proofs.Common.{◌≡◌, ℕ, Some, refl, rules, sym, ap, subst, ◌∙◌}
use Rattle.std.specs.Ordering.{nat_cmp}
use Rattle.std.proofs.lemmas.Cmp.{nat_cmp_total}
use Rattle.std.proofs.lemmas.Option.{same_Some}
use Rattle.class_form.specs.declared.body.Point.{Point}
use Rattle.dep_form.proofs.Searching.{found_by, missed_by, one_number}
use Rattle.node_tables.proofs.Calls.{compares_equal}
use Rattle.input_tables.specs.Control.{StandsAt}
use Rattle.input_tables.proofs.Keyed.{one_place}
use Rattle.input_tables.proofs.points.point_of.Goals as goal

pub returns-in-Ok : goal.returns-in-Ok
returns-in-Ok c =
    let xs = c.args.points.now in
    let h = found_by nat_cmp nat_cmp_total (λ (t : Point). t.pc) _ xs c.args.pc c.in-Ok.q refl (λ a r f' k. search rules) c.in-Ok.ensures.bound c.in-Ok.ensures.position in
    λ q. (
      λ e. subst (λ (n : ℕ). StandsAt xs n c.args.pc) (same_Some c.in-Ok.q q e) (h.0, h.1, one_number h.0.pc c.args.pc h.2),
      λ (t, at, e). ap (λ (n : ℕ). Some n) (one_place (λ (t : Point). t.pc) xs c.requires.order c.in-Ok.q q h.0 t h.1 at (one_number h.0.pc c.args.pc h.2 ∙ sym e)),
    )

pub returns-in-Err : goal.returns-in-Err
returns-in-Err c = λ q. (
  λ e. absurd (cc e),
  λ (t, at, e). absurd (missed_by nat_cmp nat_cmp_total (λ (t : Point). t.pc) _ c.args.points.now c.args.pc _ refl (λ a r f' k. search rules) c.requires.order c.in-Err.ensures.position q t at (compares_equal t.pc c.args.pc e)),
)
