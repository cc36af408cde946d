use Rattle.std.proofs.Common.{rules, ◌≡◌, ◌<◌, ◌≤◌, ◌+◌, ◌-◌, ℕ, List, [], take, get_or, length, Contains, inl, inr, refl, sym, ap, subst, ◌∙◌, arith, length-set}
use Rattle.std.proofs.lemmas.List.{take_all}
use Rattle.std.proofs.lemmas.List.Elements.{Contains-get_or}
use Rattle.worklists.specs.Growth.{Grows, FromOne}
use Rattle.worklist.specs.Worklists.{IsWorklist}
use Rattle.worklists.proofs.Growing.{Grows-same, Grows-more, Grows-kept}
use Rattle.worklists.proofs.ClosingOne.{Closing, begins, goes_on}
use Rattle.class_form.specs.declared.body.Instr.{Instr}
use Rattle.class_form.specs.Shapes.{IsReachable, AreDepths}
use Rattle.std.specs.Prelude.{IsTrue, true, false}
use Rattle.worklist.specs.Worklists.{is_marked}
use Rattle.class_form.specs.Table.{opcode_of}
use Rattle.code_shape.specs.declared.covers.Cover.{Cover}
use Rattle.code_shape.specs.Codes.{IsAt, IsIndexOf}
use Rattle.code_shape.specs.Searches.{IsCode, IsSearch, IsForced, IsNext, IsHandler, Steps, IsReachedAt}
use Rattle.code_shape.proofs.Orders.{read_at, there_at, index_in}
use Rattle.code_shape.proofs.Searching.{one_index, same_instr, forced_more, already, index_of_pc, next_is, no_next, last_next, handlers_are, steps_are, by_one, exact, handler_start, handler_forced, after_forced, index_at, start_reached}
use Rattle.code_shape.proofs.search.Code.search.Goals as goal

pub meet_at-requires-clause-depth : goal.meet_at-requires-clause-depth
meet_at-requires-clause-depth c = λ i at f are. ap f (c.requires.code.instrs.first i at) ∙ are.start

pub step-requires-clause-found : goal.step-requires-clause-found
step-requires-clause-found c = (c.loop-next.next, omega (arith, c.loop-next-test.true, c.len.ensures), sym c.index-index.ensures)

pub step-requires-clause-reached : goal.step-requires-clause-reached
step-requires-clause-reached c = c.loop-next.invariant.closing.each c.index-index.result.now (c.loop-next.next, omega (arith, c.loop-next-test.true, c.len.ensures), sym c.index-index.ensures)

pub loop-next-init : goal.loop-next-init
loop-next-init c =
    let self = c.args.self.now in
    let i = index_at self.instrs.now 0 c.requires.some in
    let g = c.in_ok-meet_at.ensures.grown in
    record {
      search = c.in_ok-meet_at.ensures.search;
      start = g.all 0 refl;
      closing = begins (IsReachedAt self) (Steps self) c.meet_at.new.search.found.items.items (λ n h. elim (g.only n h) [
        | inl o ↦ absurd (omega (arith, o.1, ap length c.in_ok-search.ensures.none))
        | inr e ↦ subst (IsReachedAt self) (sym e) (start_reached self i.0 c.requires.code i.1)
      ]);
    }

pub loop-next-preserved : goal.loop-next-preserved
loop-next-preserved c =
    let self = c.args.self.now in
    let old = c.loop-next.search.found.items.items in
    let new = c.step.new.search.found.items.items in
    let x = c.index-index.result.now in
    let lt : c.loop-next.next < length old = omega (arith, c.loop-next-test.true, c.len.ensures) in
    record {
      search = c.in_ok-step.ensures.search;
      start = Grows-kept old new (Steps self x) c.in_ok-step.ensures.grown 0 c.loop-next.invariant.start;
      closing = goes_on (IsReachedAt self) (Steps self) (by_one self) c.loop-next.next x old new lt c.index-index.ensures c.in_ok-step.ensures.grown c.loop-next.invariant.closing;
    }

pub returns-clause-exact : goal.returns-clause-exact
returns-clause-exact c = λ k i at. exact c.args.self.now c.loop-next.next c.loop-next.search.found.items.items (omega (arith, c.loop-next-test.false, c.len.ensures)) c.requires.code c.loop-next.invariant.closing c.loop-next.invariant.start k i at
