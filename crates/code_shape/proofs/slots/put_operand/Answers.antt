use Rattle.std.proofs.Common.{◌≡◌, ◌<◌, ◌≤◌, ◌+◌, ◌-◌, ◌*◌, ℕ, List, [], ◌∷◌, ◌++◌, take, length, get_or, Contains, Some, refl, sym, ap, subst, ◌∙◌, arith}
use Rattle.std.specs.Prelude.{slice_get}
use Rattle.std.proofs.lemmas.Option.{slice_get-get_or, slice_get_within}
use Rattle.std.proofs.lemmas.List.Sums.{sum_by_more, sum_by_more_le}
use Rattle.worklists.specs.Growth.{Grows}
use Rattle.worklists.proofs.Growing.{FromBelow, Grows-next, Grows-same, Grows-none}
use Rattle.class_form.specs.Table.{opcode_of}
use Rattle.class_form.specs.declared.body.Operand.{Operand}
use Rattle.class_form.specs.declared.body.SlotUse.{SlotUse}
use Rattle.class_form.specs.Shapes.{IsAmong, moves, first_taken, first_operand, operand_slots, MakesSlot, MovesSlot, Uses}
use Rattle.code_shape.specs.Listed.{AreBelow, slot_itself, slot_of, goal_of, UsesFrom, UsesAt, MovesAt}
use Rattle.code_shape.proofs.Listing.{below_none, below_wider, below_push, grows_push, ordered_list, slots_among, local_fits, no_slots, all_makes, one_move, all_moves, uses_from, one_operand, all_uses}
use Rattle.code_shape.proofs.Orders.{read_at}
use Rattle.code_shape.proofs.slots.put_operand.Goals as goal

pub loop-i-preserved : goal.loop-i-preserved
loop-i-preserved c =
    let old = c.loop-i.uses.items in
    let x = c.args.first + c.loop-i.i in
    let u : SlotUse = record { slot = x; operand = c.args.number; base = c.args.operand.base } in
    record {
      below = subst (AreBelow slot_of (c.args.first + (c.loop-i.i + 1))) (sym c.in_ok-put_use.ensures) (below_push slot_of x (c.args.first + (c.loop-i.i + 1)) old u refl (omega arith) c.loop-i.invariant.below);
      grown = Grows-next (λ (i : ℕ) (v : SlotUse). v ≡ record { slot = c.args.first + i; operand = c.args.number; base = c.args.operand.base }) c.loop-i.i c.args.uses.now.items old c.put_use.new.uses.items c.loop-i.invariant.grown (subst (λ (xs : List SlotUse). Grows old xs (λ y. y ≡ u)) (sym c.in_ok-put_use.ensures) (grows_push old u));
    }

pub returns-clause-grown : goal.returns-clause-grown
returns-clause-grown c =
    let end : c.loop-i.i ≡ c.args.operand.slots = omega arith in
    uses_from c.args.number c.args.first c.args.operand c.args.uses.now.items c.loop-i.uses.items (subst (λ (n : ℕ). Grows c.args.uses.now.items c.loop-i.uses.items (FromBelow (λ (i : ℕ) (v : SlotUse). v ≡ record { slot = c.args.first + i; operand = c.args.number; base = c.args.operand.base }) n)) end c.loop-i.invariant.grown)
