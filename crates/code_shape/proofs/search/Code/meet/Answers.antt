use Rattle.std.proofs.Common.{rules, ◌≡◌, ◌<◌, ◌≤◌, ◌+◌, ◌-◌, ℕ, List, [], take, get_or, length, Contains, inl, inr, refl, sym, ap, subst, ◌∙◌, arith, length-set}
use Rattle.std.proofs.lemmas.List.{take_all}
use Rattle.std.proofs.lemmas.List.Elements.{Contains-get_or}
use Rattle.worklists.specs.Growth.{Grows, FromOne}
use Rattle.worklist.specs.Worklists.{IsWorklist}
use Rattle.worklists.proofs.Growing.{Grows-same, Grows-more, Grows-kept}
use Rattle.worklists.proofs.ClosingOne.{Closing, begins, goes_on}
use Rattle.class_form.specs.declared.body.Instr.{Instr}
use Rattle.class_form.specs.Shapes.{IsReachable, AreDepths}
use Rattle.std.specs.Prelude.{IsTrue, true, false}
use Rattle.worklist.specs.Worklists.{is_marked}
use Rattle.class_form.specs.Table.{opcode_of}
use Rattle.code_shape.specs.declared.covers.Cover.{Cover}
use Rattle.code_shape.specs.Codes.{IsAt, IsIndexOf}
use Rattle.code_shape.specs.Searches.{IsCode, IsSearch, IsForced, IsNext, IsHandler, Steps, IsReachedAt}
use Rattle.code_shape.proofs.Orders.{read_at, there_at, index_in}
use Rattle.code_shape.proofs.Searching.{one_index, same_instr, forced_more, already, index_of_pc, next_is, no_next, last_next, handlers_are, steps_are, by_one, exact, handler_start, handler_forced, after_forced, index_at, start_reached}
use Rattle.code_shape.proofs.search.Code.meet.Goals as goal

pub meet_at-requires-clause-depth : goal.meet_at-requires-clause-depth
meet_at-requires-clause-depth c = λ i at f are.
    let is = c.in-Some.ensures.found in
    ap f (ap (λ (x : Instr). x.pc) (same_instr c.args.self.now.instrs.now c.in-Some.index i is.0 at is.1) ∙ is.2) ∙ c.requires.depth f are

pub returns-clause-grown : goal.returns-clause-grown
returns-clause-grown c = index_of_pc c.args.self.now.instrs.now c.args.pc c.in-Some.index c.args.search.now.found.items.items c.meet_at.new.search.found.items.items c.requires.code.order c.in-Some.ensures.found c.in_ok-meet_at.ensures.grown
