use Rattle.std.proofs.Common.{rules, ◌≡◌, ◌<◌, ◌≤◌, ◌+◌, ◌-◌, ℕ, List, [], take, get_or, length, Contains, inl, inr, refl, sym, ap, subst, ◌∙◌, arith, length-set}
use Rattle.std.proofs.lemmas.List.{take_all}
use Rattle.std.proofs.lemmas.List.Elements.{Contains-get_or}
use Rattle.worklists.specs.Growth.{Grows, FromOne}
use Rattle.worklist.specs.Worklists.{IsWorklist}
use Rattle.worklists.proofs.Growing.{Grows-same, Grows-more, Grows-kept}
use Rattle.worklists.proofs.ClosingOne.{Closing, begins, goes_on}
use Rattle.class_form.specs.declared.body.Instr.{Instr}
use Rattle.class_form.specs.Shapes.{IsReachable, AreDepths}
use Rattle.std.specs.Prelude.{IsTrue, true, false}
use Rattle.worklist.specs.Worklists.{is_marked}
use Rattle.class_form.specs.Table.{opcode_of}
use Rattle.code_shape.specs.declared.covers.Cover.{Cover}
use Rattle.code_shape.specs.Codes.{IsAt, IsIndexOf}
use Rattle.code_shape.specs.Searches.{IsCode, IsSearch, IsForced, IsNext, IsHandler, Steps, IsReachedAt}
use Rattle.code_shape.proofs.Orders.{read_at, there_at, index_in}
use Rattle.code_shape.proofs.Searching.{one_index, same_instr, forced_more, already, index_of_pc, next_is, no_next, last_next, handlers_are, steps_are, by_one, exact, handler_start, handler_forced, after_forced, index_at, start_reached}
use Rattle.code_shape.proofs.search.Code.meet_handlers.Goals as goal

pub meet-requires-clause-start : goal.meet-requires-clause-start
meet-requires-clause-start c =
    let covers = c.covers_at-covers.result.now in
    let k = c.loop-cover.cover-index in
    let x : Cover = get_or covers k (record { index = 0; handler = 0 }) in
    let h = (c.covers_at-covers.ensures.members x).0 (Contains-get_or covers k (record { index = 0; handler = 0 }) c.loop-cover-test.true) in
    handler_start c.args.self.now c.args.index c.requires.code x h.0 h.1

pub meet-requires-clause-depth : goal.meet-requires-clause-depth
meet-requires-clause-depth c =
    let covers = c.covers_at-covers.result.now in
    let k = c.loop-cover.cover-index in
    let x : Cover = get_or covers k (record { index = 0; handler = 0 }) in
    let h = (c.covers_at-covers.ensures.members x).0 (Contains-get_or covers k (record { index = 0; handler = 0 }) c.loop-cover-test.true) in
    handler_forced c.args.self.now c.args.index c.requires.code x h.0 h.1 c.requires.reached

pub loop-cover-preserved : goal.loop-cover-preserved
loop-cover-preserved c = record {
  search = c.in_ok-meet.ensures.search;
  grown = Grows-more (λ (x : Cover) (m : ℕ). IsIndexOf c.args.self.now.instrs.now x.handler m) c.covers_at-covers.result.now c.loop-cover.cover-index _ c.args.search.now.found.items.items c.loop-cover.search.found.items.items c.meet.new.search.found.items.items c.loop-cover-test.true c.loop-cover.invariant.grown c.in_ok-meet.ensures.grown;
}

pub returns-clause-grown : goal.returns-clause-grown
returns-clause-grown c = λ i at.
    let covers = c.covers_at-covers.result.now in
    handlers_are c.args.self.now c.args.index i covers c.args.search.now.found.items.items c.loop-cover.search.found.items.items c.requires.code at c.covers_at-covers.ensures.members
    (subst (λ (xs : List Cover). Grows c.args.search.now.found.items.items c.loop-cover.search.found.items.items (FromOne (λ (x : Cover) (m : ℕ). IsIndexOf c.args.self.now.instrs.now x.handler m) xs)) (take_all c.loop-cover.cover-index covers c.loop-cover-test.false) c.loop-cover.invariant.grown)
