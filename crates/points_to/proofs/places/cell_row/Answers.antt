use Rattle.std.proofs.Common.{◌∙◌, sym, ap, subst}
use Rattle.points_to.specs.States.{find_slot}
use Rattle.points_to.proofs.Slots.{Sorted, slots_read, slots_past}
use Rattle.points_to.proofs.places.cell_row.Goals as goal

pub find-requires : goal.find-requires
find-requires c = subst Sorted (sym (slots_read c.args.cells.now c.args.site.0 c.index-cells-number.result c.if-number-cells.true c.index-cells-number.is) ∙ sym c.as_slice.ensures.value) (c.requires c.args.site.0)

pub returns-then-number-cells : goal.returns-then-number-cells
returns-then-number-cells c = c.find.ensures ∙ ap (λ xs. find_slot xs c.args.field) (c.as_slice.ensures.value ∙ slots_read c.args.cells.now c.args.site.0 c.index-cells-number.result c.if-number-cells.true c.index-cells-number.is)

pub returns-else-number-cells : goal.returns-else-number-cells
returns-else-number-cells c = sym (ap (λ xs. find_slot xs c.args.field) (slots_past c.args.cells.now c.args.site.0 c.if-number-cells.false))
