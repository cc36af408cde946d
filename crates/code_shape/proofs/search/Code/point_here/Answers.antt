use Rattle.std.proofs.Common.{rules, ◌≡◌, ◌<◌, ◌≤◌, ◌+◌, ◌-◌, ℕ, List, [], ◌∷◌, ◌++◌, take, map, length, get_or, Contains, inl, inr, refl, sym, ap, subst, ◌∙◌, arith}
use Rattle.std.specs.Prelude.{IsTrue, true, false, slice_get}
use Rattle.std.proofs.lemmas.List.{take_all}
use Rattle.std.proofs.lemmas.List.Elements.{Contains-get_or, All-contains}
use Rattle.std.proofs.lemmas.Option.{slice_get_within, slice_get-get_or, get_or_from_slice_get}
use Rattle.class_form.specs.Table.{opcode_of}
use Rattle.class_form.specs.declared.body.Instr.{Instr}
use Rattle.class_form.specs.declared.body.Point.{Point}
use Rattle.class_form.specs.Shapes.{GoesTo, Catches, HasLocal, RunsOff, IsReached, IsReachable, IsPointOf, ArePoints}
use Rattle.worklists.specs.Growth.{Grows, FromOne}
use Rattle.worklist.specs.Worklists.{is_marked}
use Rattle.worklists.proofs.Growing.{Grows-same, Grows-more, Grows-none}
use Rattle.slicer_ids.specs.Sets.{IsOrderedListOf}
use Rattle.code_shape.specs.declared.covers.Cover.{Cover}
use Rattle.code_shape.specs.Codes.{IsAt}
use Rattle.code_shape.specs.Searches.{IsCode, IsDone, depth_in}
use Rattle.code_shape.specs.Listed.{IsNextOf, handler_of}
use Rattle.code_shape.specs.Pointed.{ArePointsTo}
use Rattle.code_shape.proofs.Orders.{read_at, there_at, index_in}
use Rattle.code_shape.proofs.Listing.{grows_push}
use Rattle.code_shape.proofs.Searching.{same_instr, index_at}
use Rattle.code_shape.proofs.Pointing.{no_next_of, goes_to, ordered_next, next_small, ordered_handlers, no_points, passed, one_point, all_points}
use Rattle.class_form.specs.declared.body.SlotUse.{SlotUse}
use Rattle.class_form.specs.Shapes.{Uses, MovesSlot, MakesSlot}
use Rattle.code_shape.proofs.search.Code.point_here.Goals as goal

pub next_of-requires : goal.next_of-requires
next_of-requires c = next_small c.args.self.now c.args.index c.args.instr.now c.requires.code c.requires.index c.requires.stays c.requires.code.small

pub covers_at-requires-clause-order : goal.covers_at-requires-clause-order
covers_at-requires-clause-order c = c.requires.code.covers_order

pub covers_at-requires-clause-index : goal.covers_at-requires-clause-index
covers_at-requires-clause-index c = omega (arith, c.requires.code.few, slice_get_within c.args.self.now.instrs.now c.args.index c.args.instr.now c.requires.index)

pub uses_of-requires : goal.uses_of-requires
uses_of-requires c = c.requires.code.instrs.operands c.args.instr.now (there_at c.args.self.now.instrs.now c.args.index c.args.instr.now c.requires.index)

pub moves_of-requires : goal.moves_of-requires
moves_of-requires c = c.requires.code.instrs.operands c.args.instr.now (there_at c.args.self.now.instrs.now c.args.index c.args.instr.now c.requires.index)

pub makes_of-requires-clause-operands : goal.makes_of-requires-clause-operands
makes_of-requires-clause-operands c = c.requires.code.instrs.operands c.args.instr.now (there_at c.args.self.now.instrs.now c.args.index c.args.instr.now c.requires.index)

pub returns-clause-point : goal.returns-clause-point
returns-clause-point c =
    let body = c.args.self.now.body.now in
    let i = c.args.instr.now in
    record {
      pc = refl;
      op = refl;
      next = subst (λ (xs : List ℕ). IsOrderedListOf (λ (a b : ℕ). a < b) xs (GoesTo i)) (sym c.from_vec.ensures) c.in_ok-next.ensures;
      handlers = subst (λ (xs : List ℕ). IsOrderedListOf (λ (a b : ℕ). a < b) xs (Catches body i.pc)) (sym (c.from_vec-2.ensures ∙ c.in_ok-handlers.ensures))
          (ordered_handlers c.args.self.now c.args.index i c.covers_at.result.now c.requires.code c.requires.index c.covers_at.ensures.order c.covers_at.ensures.members);
      uses = subst (λ (xs : List SlotUse). IsOrderedListOf (λ (a b : SlotUse). a.slot < b.slot) xs (Uses body i c.args.depth)) (sym c.from_vec-3.ensures) c.in_ok-uses.ensures;
      moves = subst (λ (xs : List (ℕ × ℕ)). IsOrderedListOf (λ (a b : ℕ × ℕ). a.1 < b.1) xs (MovesSlot body i c.args.depth)) (sym c.from_vec-4.ensures) c.in_ok-moves.ensures;
      makes = subst (λ (xs : List ℕ). IsOrderedListOf (λ (a b : ℕ). a < b) xs (MakesSlot body i c.args.depth)) (sym c.from_vec-5.ensures) c.in_ok-makes.ensures;
    }
