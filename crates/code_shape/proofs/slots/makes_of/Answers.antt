use Rattle.std.proofs.Common.{◌≡◌, ◌<◌, ◌≤◌, ◌+◌, ◌-◌, ◌*◌, ℕ, List, [], ◌∷◌, ◌++◌, take, length, get_or, Contains, Some, refl, sym, ap, subst, ◌∙◌, arith}
use Rattle.std.specs.Prelude.{slice_get}
use Rattle.std.proofs.lemmas.Option.{slice_get-get_or, slice_get_within}
use Rattle.std.proofs.lemmas.List.Sums.{sum_by_more, sum_by_more_le}
use Rattle.worklists.specs.Growth.{Grows}
use Rattle.worklists.proofs.Growing.{FromBelow, Grows-next, Grows-same}
use Rattle.class_form.specs.Table.{opcode_of}
use Rattle.class_form.specs.declared.body.Operand.{Operand}
use Rattle.class_form.specs.declared.body.SlotUse.{SlotUse}
use Rattle.class_form.specs.Shapes.{IsAmong, moves, first_taken, first_operand, operand_slots, MakesSlot, MovesSlot, Uses}
use Rattle.code_shape.specs.Listed.{AreBelow, slot_itself, slot_of, goal_of, UsesFrom, UsesAt, MovesAt}
use Rattle.code_shape.proofs.Listing.{below_none, below_wider, below_push, grows_push, ordered_list, slots_among, local_fits, no_slots, all_makes, one_move, all_moves, uses_from, one_operand, all_uses}
use Rattle.code_shape.proofs.Orders.{read_at}
use Rattle.code_shape.proofs.slots.makes_of.Goals as goal

pub put_slots-requires-clause-below : goal.put_slots-requires-clause-below
put_slots-requires-clause-below c = below_wider slot_itself c.args.body.now.max_locals c.first_taken-first.result c.put_local.new.slots.items (omega (arith, c.first_taken-first.ensures.first)) c.in_ok-put_local.ensures.below

pub returns : goal.returns
returns c =
    let new = c.put_slots.new.slots.items in
    ordered_list slot_itself (c.first_taken-first.result + c.args.instr.now.leaves) new (MakesSlot c.args.body.now c.args.instr.now c.args.depth) c.in_ok-put_slots.ensures.below
    (all_makes c.args.body.now c.args.instr.now c.args.depth c.put_local.new.slots.items new c.in_ok-put_local.ensures.grown
    (subst (λ (n : ℕ). Grows c.put_local.new.slots.items new (IsAmong n c.args.instr.now.leaves)) c.first_taken-first.ensures.first c.in_ok-put_slots.ensures.grown))
