use Rattle.std.proofs.Common.{◌≡◌, ◌<◌, ◌≤◌, ◌+◌, ◌-◌, ◌*◌, ℕ, List, [], ◌∷◌, ◌++◌, take, length, get_or, Contains, Some, refl, sym, ap, subst, ◌∙◌, arith}
use Rattle.std.specs.Prelude.{slice_get}
use Rattle.std.proofs.lemmas.Option.{slice_get-get_or, slice_get_within}
use Rattle.std.proofs.lemmas.List.Sums.{sum_by_more, sum_by_more_le}
use Rattle.worklists.specs.Growth.{Grows}
use Rattle.worklists.proofs.Growing.{FromBelow, Grows-next, Grows-same, Grows-none}
use Rattle.class_form.specs.Table.{opcode_of}
use Rattle.class_form.specs.declared.opcode.Opcode.{Opcode}
use Rattle.class_form.specs.declared.body.Operand.{Operand}
use Rattle.class_form.specs.declared.body.SlotUse.{SlotUse}
use Rattle.class_form.specs.Shapes.{IsAmong, moves, first_taken, first_operand, operand_slots, MakesSlot, MovesSlot, Uses}
use Rattle.code_shape.specs.Listed.{AreBelow, slot_itself, slot_of, goal_of, UsesFrom, UsesAt, MovesAt}
use Rattle.code_shape.proofs.Listing.{below_none, below_wider, below_push, grows_push, ordered_list, slots_among, local_fits, no_slots, all_makes, one_move, all_moves, uses_from, one_operand, all_uses}
use Rattle.code_shape.proofs.Orders.{read_at}
use Rattle.code_shape.proofs.slots.put_local.Goals as goal

pub returns-then-makes-eq0-clause-below : goal.returns-then-makes-eq0-clause-below
returns-then-makes-eq0-clause-below c = below_none slot_itself c.args.body.now.max_locals c.args.slots.now.items c.requires.none

pub returns-then-makes-eq0-clause-grown : goal.returns-then-makes-eq0-clause-grown
returns-then-makes-eq0-clause-grown c =
    let i = c.args.instr.now in
    subst (λ (xs : List ℕ). Grows xs c.args.slots.now.items (IsAmong i.index (opcode_of i.op).makes)) c.requires.none
    (no_slots i.index (opcode_of i.op).makes c.args.slots.now.items (ap (λ (o : Opcode). o.makes) (sym c.of-makes.ensures) ∙ c.if-makes-eq0.true))

pub put_slots-requires-clause-below : goal.put_slots-requires-clause-below
put_slots-requires-clause-below c = below_none slot_itself c.args.instr.now.index c.args.slots.now.items c.requires.none

pub returns-clause-below : goal.returns-clause-below
returns-clause-below c =
    let i = c.args.instr.now in
    let e : c.of-makes.result.makes ≡ (opcode_of i.op).makes = ap (λ (o : Opcode). o.makes) c.of-makes.ensures in
    let some : 0 < (opcode_of i.op).makes = omega (arith, e, c.if-makes-eq0.false) in
    below_wider slot_itself (i.index + c.of-makes.result.makes) c.args.body.now.max_locals c.put_slots.new.slots.items (omega (arith, e, local_fits c.args.body.now i c.requires.local some)) c.in_ok-put_slots.ensures.below

pub returns-clause-grown : goal.returns-clause-grown
returns-clause-grown c =
    let i = c.args.instr.now in
    let e : c.of-makes.result.makes ≡ (opcode_of i.op).makes = ap (λ (o : Opcode). o.makes) c.of-makes.ensures in
    subst (λ (xs : List ℕ). Grows xs c.put_slots.new.slots.items (IsAmong i.index (opcode_of i.op).makes)) c.requires.none
    (subst (λ (n : ℕ). Grows c.args.slots.now.items c.put_slots.new.slots.items (IsAmong i.index n)) e c.in_ok-put_slots.ensures.grown)
