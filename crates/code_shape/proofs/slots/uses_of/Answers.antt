use Rattle.std.proofs.Common.{◌≡◌, ◌<◌, ◌≤◌, ◌+◌, ◌-◌, ◌*◌, ℕ, List, [], ◌∷◌, ◌++◌, take, length, get_or, Contains, Some, refl, sym, ap, subst, ◌∙◌, arith}
use Rattle.std.specs.Prelude.{slice_get}
use Rattle.std.proofs.lemmas.Option.{slice_get-get_or, slice_get_within}
use Rattle.std.proofs.lemmas.List.Sums.{sum_by_more, sum_by_more_le}
use Rattle.worklists.specs.Growth.{Grows}
use Rattle.worklists.proofs.Growing.{FromBelow, Grows-next, Grows-same, Grows-none}
use Rattle.class_form.specs.Table.{opcode_of}
use Rattle.class_form.specs.declared.body.Operand.{Operand}
use Rattle.class_form.specs.declared.body.SlotUse.{SlotUse}
use Rattle.class_form.specs.Shapes.{IsAmong, moves, first_taken, first_operand, operand_slots, MakesSlot, MovesSlot, Uses}
use Rattle.code_shape.specs.Listed.{AreBelow, slot_itself, slot_of, goal_of, UsesFrom, UsesAt, MovesAt}
use Rattle.code_shape.proofs.Listing.{below_none, below_wider, below_push, grows_push, ordered_list, slots_among, local_fits, no_slots, all_makes, one_move, all_moves, uses_from, one_operand, all_uses}
use Rattle.code_shape.proofs.Orders.{read_at}
use Rattle.std.specs.Prelude.{false}
use Rattle.code_shape.proofs.slots.uses_of.Goals as goal

pub loop-number-preserved : goal.loop-number-preserved
loop-number-preserved c =
    let operands = c.items-operands.result.now in
    let k = c.loop-number.number in
    let d : Operand = record { slots = 0; base = false } in
    let o = get_or operands k d in
    let old = c.loop-number.uses.items in
    let new = c.put_operand.new.uses.items in
    let start = c.first_operand-first.result in
    let at = slice_get-get_or operands k d c.loop-number-test.true in
    record {
      first = omega (arith, c.loop-number.invariant.first, sum_by_more (λ (p : Operand). p.slots) operands k d c.loop-number-test.true);
      small = omega (arith, c.loop-number.invariant.small, c.put_operand.ensures.small);
      below = c.in_ok-put_operand.ensures.below;
      grown = Grows-next (UsesAt operands start) k [] old new c.loop-number.invariant.grown (one_operand operands start k c.loop-number.first o old new at c.loop-number.invariant.first c.in_ok-put_operand.ensures.grown);
    }

pub returns : goal.returns
returns c =
    let body = c.args.body.now in
    let i = c.args.instr.now in
    let operands = c.items-operands.result.now in
    let start = c.first_operand-first.result in
    let new = c.loop-number.uses.items in
    let end : c.loop-number.number ≡ length i.takes = omega (arith, c.loop-number-test.false, ap length c.items-operands.ensures) in
    ordered_list slot_of c.loop-number.first new (Uses body i c.args.depth) c.loop-number.invariant.below
    (all_uses body i c.args.depth [] new
    (subst (λ (n : ℕ). Grows [] new (FromBelow (UsesAt i.takes (first_operand body i c.args.depth)) n)) end
    (subst (λ (xs : List Operand). Grows [] new (FromBelow (UsesAt xs (first_operand body i c.args.depth)) c.loop-number.number)) c.items-operands.ensures
    (subst (λ (n : ℕ). Grows [] new (FromBelow (UsesAt operands n) c.loop-number.number)) c.first_operand-first.ensures.first c.loop-number.invariant.grown))))
