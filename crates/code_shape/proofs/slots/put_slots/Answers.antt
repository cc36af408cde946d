use Rattle.std.proofs.Common.{◌≡◌, ◌<◌, ◌≤◌, ◌+◌, ◌-◌, ◌*◌, ℕ, List, [], ◌∷◌, ◌++◌, take, length, get_or, Contains, Some, refl, sym, ap, subst, ◌∙◌, arith}
use Rattle.std.specs.Prelude.{slice_get}
use Rattle.std.proofs.lemmas.Option.{slice_get-get_or, slice_get_within}
use Rattle.std.proofs.lemmas.List.Sums.{sum_by_more, sum_by_more_le}
use Rattle.worklists.specs.Growth.{Grows}
use Rattle.worklists.proofs.Growing.{FromBelow, Grows-next, Grows-same, Grows-none}
use Rattle.class_form.specs.Table.{opcode_of}
use Rattle.class_form.specs.declared.body.Operand.{Operand}
use Rattle.class_form.specs.declared.body.SlotUse.{SlotUse}
use Rattle.class_form.specs.Shapes.{IsAmong, moves, first_taken, first_operand, operand_slots, MakesSlot, MovesSlot, Uses}
use Rattle.code_shape.specs.Listed.{AreBelow, slot_itself, slot_of, goal_of, UsesFrom, UsesAt, MovesAt}
use Rattle.code_shape.proofs.Listing.{below_none, below_wider, below_push, grows_push, ordered_list, slots_among, local_fits, no_slots, all_makes, one_move, all_moves, uses_from, one_operand, all_uses}
use Rattle.code_shape.proofs.Orders.{read_at}
use Rattle.code_shape.proofs.slots.put_slots.Goals as goal

pub loop-i-init : goal.loop-i-init
loop-i-init c = record {
  below = below_wider slot_itself c.args.first (c.args.first + 0) c.args.slots.now.items (omega arith) c.requires.below;
  grown = Grows-none c.args.slots.now.items (FromBelow (λ (i x : ℕ). x ≡ c.args.first + i) 0) (λ x f. absurd (omega (arith, f.1)));
}

pub loop-i-preserved : goal.loop-i-preserved
loop-i-preserved c =
    let old = c.loop-i.slots.items in
    let x = c.args.first + c.loop-i.i in
    record {
      below = subst (AreBelow slot_itself (c.args.first + (c.loop-i.i + 1))) (sym c.in_ok-put_slot.ensures) (below_push slot_itself x (c.args.first + (c.loop-i.i + 1)) old x refl (omega arith) c.loop-i.invariant.below);
      grown = Grows-next (λ (i y : ℕ). y ≡ c.args.first + i) c.loop-i.i c.args.slots.now.items old c.put_slot.new.slots.items c.loop-i.invariant.grown (subst (λ (xs : List ℕ). Grows old xs (λ y. y ≡ x)) (sym c.in_ok-put_slot.ensures) (grows_push old x));
    }

pub returns-clause-below : goal.returns-clause-below
returns-clause-below c = below_wider slot_itself (c.args.first + c.loop-i.i) (c.args.first + c.args.count) c.loop-i.slots.items (omega arith) c.loop-i.invariant.below

pub returns-clause-grown : goal.returns-clause-grown
returns-clause-grown c =
    let end : c.loop-i.i ≡ c.args.count = omega arith in
    slots_among c.args.first c.args.count c.args.slots.now.items c.loop-i.slots.items (subst (λ (n : ℕ). Grows c.args.slots.now.items c.loop-i.slots.items (FromBelow (λ (i y : ℕ). y ≡ c.args.first + i) n)) end c.loop-i.invariant.grown)
