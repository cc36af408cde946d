use Rattle.std.proofs.Common.{◌≡◌, ◌<◌, ◌≤◌, ◌+◌, ◌-◌, ◌*◌, ℕ, List, [], ◌∷◌, ◌++◌, take, length, get_or, Contains, Some, refl, sym, ap, subst, ◌∙◌, arith}
use Rattle.std.specs.Prelude.{slice_get}
use Rattle.std.proofs.lemmas.Option.{slice_get-get_or, slice_get_within}
use Rattle.std.proofs.lemmas.List.Sums.{sum_by_more, sum_by_more_le}
use Rattle.worklists.specs.Growth.{Grows}
use Rattle.worklists.proofs.Growing.{FromBelow, Grows-next, Grows-same}
use Rattle.class_form.specs.Table.{opcode_of}
use Rattle.class_form.specs.declared.body.Operand.{Operand}
use Rattle.class_form.specs.declared.body.SlotUse.{SlotUse}
use Rattle.class_form.specs.Shapes.{IsAmong, moves, first_taken, first_operand, operand_slots, MakesSlot, MovesSlot, Uses}
use Rattle.code_shape.specs.Listed.{AreBelow, slot_itself, slot_of, goal_of, UsesFrom, UsesAt, MovesAt}
use Rattle.code_shape.proofs.Listing.{below_none, below_wider, below_push, grows_push, ordered_list, slots_among, local_fits, no_slots, all_makes, one_move, all_moves, uses_from, one_operand, all_uses}
use Rattle.code_shape.proofs.Orders.{read_at}
use Rattle.code_shape.proofs.slots.moves_of.Given as goal

abbrev pub invariant-loop-k : goal.invariant-loop-k
invariant-loop-k l = record {
  below : AreBelow goal_of (l.first + l.k) l.moves.items;
  grown : Grows [] l.moves.items (FromBelow (MovesAt l.leaves l.first) l.k);
}
