use Rattle.std.proofs.Common.{◌≡◌, ◌<◌, ◌≤◌, ◌+◌, ◌-◌, ◌*◌, ℕ, List, [], ◌∷◌, ◌++◌, take, length, get_or, Contains, Some, refl, sym, ap, subst, ◌∙◌, arith}
use Rattle.std.specs.Prelude.{slice_get}
use Rattle.std.proofs.lemmas.Option.{slice_get-get_or, slice_get_within}
use Rattle.std.proofs.lemmas.List.Sums.{sum_by_more, sum_by_more_le}
use Rattle.worklists.specs.Growth.{Grows}
use Rattle.worklists.proofs.Growing.{FromBelow, Grows-next, Grows-same, Grows-none}
use Rattle.class_form.specs.Table.{opcode_of}
use Rattle.class_form.specs.declared.body.Operand.{Operand}
use Rattle.class_form.specs.declared.body.SlotUse.{SlotUse}
use Rattle.class_form.specs.Shapes.{IsAmong, moves, first_taken, first_operand, operand_slots, MakesSlot, MovesSlot, Uses}
use Rattle.code_shape.specs.Listed.{AreBelow, slot_itself, slot_of, goal_of, UsesFrom, UsesAt, MovesAt}
use Rattle.code_shape.proofs.Listing.{below_none, below_wider, below_push, grows_push, ordered_list, slots_among, local_fits, no_slots, all_makes, one_move, all_moves, uses_from, one_operand, all_uses}
use Rattle.code_shape.proofs.Orders.{read_at}
use Rattle.code_shape.proofs.slots.moves_of.Goals as goal

pub loop-k-preserved : goal.loop-k-preserved
loop-k-preserved c =
    let old = c.loop-k.moves.items in
    let leaves = c.moved_left-leaves.result.now in
    let first = c.first_taken-first.result in
    let k = c.loop-k.k in
    let source = get_or leaves k 0 in
    let m : ℕ × ℕ = (first + source, first + k) in
    let at = slice_get-get_or leaves k 0 c.loop-k-test.true in
    record {
      below = subst (AreBelow goal_of (first + (k + 1))) (sym c.in_ok-put_move.ensures) (below_push goal_of (first + k) (first + (k + 1)) old m refl (omega arith) c.loop-k.invariant.below);
      grown = Grows-next (MovesAt leaves first) k [] old c.put_move.new.moves.items c.loop-k.invariant.grown (one_move leaves first k source old c.put_move.new.moves.items at (subst (λ (xs : List (ℕ × ℕ)). Grows old xs (λ y. y ≡ m)) (sym c.in_ok-put_move.ensures) (grows_push old m)));
    }

pub returns : goal.returns
returns c =
    let body = c.args.body.now in
    let i = c.args.instr.now in
    let leaves = c.moved_left-leaves.result.now in
    let first = c.first_taken-first.result in
    let new = c.loop-k.moves.items in
    let end : c.loop-k.k ≡ length (moves i).leaves = omega (arith, c.loop-k-test.false, ap length c.moved_left-leaves.ensures) in
    ordered_list goal_of (first + c.loop-k.k) new (MovesSlot body i c.args.depth) c.loop-k.invariant.below
    (all_moves body i c.args.depth [] new
    (subst (λ (n : ℕ). Grows [] new (FromBelow (MovesAt (moves i).leaves (first_taken body i c.args.depth)) n)) end
    (subst (λ (xs : List ℕ). Grows [] new (FromBelow (MovesAt xs (first_taken body i c.args.depth)) c.loop-k.k)) c.moved_left-leaves.ensures
    (subst (λ (n : ℕ). Grows [] new (FromBelow (MovesAt leaves n) c.loop-k.k)) c.first_taken-first.ensures.first c.loop-k.invariant.grown))))
