use Rattle.std.proofs.Common.{◌≡◌, ℕ, Some, refl, rules, ap, subst}
use Rattle.std.specs.Prelude.{slice_get}
use Rattle.std.proofs.lemmas.Cmp.{tied_itself}
use Rattle.std.proofs.lemmas.Option.{same_Some}
use Rattle.dep_form.specs.declared.node.Node.{Node}
use Rattle.dep_form.proofs.Searching.{found_by, missed_by}
use Rattle.input_tables.specs.Places.{place_cmp, place_of}
use Rattle.input_tables.proofs.PlaceOrder.{one_node, one_place, places_total, row_rises}
use Rattle.input_tables.proofs.places.place_in.Goals as goal

pub returns-in-Ok : goal.returns-in-Ok
returns-in-Ok c =
    let row = c.args.row.now in
    let h = found_by place_cmp places_total place_of _ row (place_of c.args.node) c.in-Ok.i refl (λ a r f' k. search rules) c.in-Ok.ensures.bound c.in-Ok.ensures.position in
    let here = subst (λ (k : Node). slice_get row c.in-Ok.i ≡ Some k) (one_node h.0 c.args.node h.2) h.1 in
    λ i. (
      λ e. subst (λ (n : ℕ). slice_get row n ≡ Some c.args.node) (same_Some c.in-Ok.i i e) here,
      λ at. ap (λ (n : ℕ). Some n) (one_place row c.requires.order c.in-Ok.i i c.args.node here at),
    )

pub returns-in-Err : goal.returns-in-Err
returns-in-Err c = λ i. (
  λ e. absurd (cc e),
  λ at. absurd (missed_by place_cmp places_total place_of _ c.args.row.now (place_of c.args.node) _ refl (λ a r f' k. search rules) (row_rises c.args.row.now c.requires.order) c.in-Err.ensures.position i c.args.node at (tied_itself places_total (place_of c.args.node))),
)
