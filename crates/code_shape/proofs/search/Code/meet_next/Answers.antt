use Rattle.std.proofs.Common.{rules, ◌≡◌, ◌<◌, ◌≤◌, ◌+◌, ◌-◌, ℕ, List, [], take, get_or, length, Contains, inl, inr, refl, sym, ap, subst, ◌∙◌, arith, length-set}
use Rattle.std.proofs.lemmas.List.{take_all}
use Rattle.std.proofs.lemmas.List.Elements.{Contains-get_or}
use Rattle.worklists.specs.Growth.{Grows, FromOne}
use Rattle.worklist.specs.Worklists.{IsWorklist}
use Rattle.worklists.proofs.Growing.{Grows-same, Grows-more, Grows-kept}
use Rattle.worklists.proofs.ClosingOne.{Closing, begins, goes_on}
use Rattle.class_form.specs.declared.body.Instr.{Instr}
use Rattle.class_form.specs.Shapes.{IsReachable, AreDepths}
use Rattle.std.specs.Prelude.{IsTrue, true, false}
use Rattle.worklist.specs.Worklists.{is_marked}
use Rattle.class_form.specs.Table.{opcode_of}
use Rattle.code_shape.specs.declared.covers.Cover.{Cover}
use Rattle.code_shape.specs.Codes.{IsAt, IsIndexOf}
use Rattle.code_shape.specs.Searches.{IsCode, IsSearch, IsForced, IsNext, IsHandler, Steps, IsReachedAt}
use Rattle.code_shape.proofs.Orders.{read_at, there_at, index_in}
use Rattle.code_shape.proofs.Searching.{one_index, same_instr, forced_more, already, index_of_pc, next_is, no_next, last_next, handlers_are, steps_are, by_one, exact, handler_start, handler_forced, after_forced, index_at, start_reached}
use Rattle.code_shape.proofs.search.Code.meet_next.Goals as goal

pub returns-then-index-self-clause-grown : goal.returns-then-index-self-clause-grown
returns-then-index-self-clause-grown c = λ i at. last_next c.args.self.now c.args.index i c.args.search.now.found.items.items c.requires.code at (omega arith)

pub meet_at-requires-clause-depth : goal.meet_at-requires-clause-depth
meet_at-requires-clause-depth c = λ j next f are.
    let i = c.index-self-index.result in
    let at = read_at c.args.self.now.instrs.now c.args.index i c.requires.index c.index-self-index.is in
    let goes : IsTrue (opcode_of i.op).goes_on = search rules in
    c.requires.depth i (c.args.index + 1) at (goes, (j, next, c.requires.code.instrs.follow c.args.index i j at next)) j next f are

pub returns-clause-grown : goal.returns-clause-grown
returns-clause-grown c = λ i at.
    let instrs = c.args.self.now.instrs.now in
    let x = c.index-self-index.result in
    let same = same_instr instrs c.args.index x i (read_at instrs c.args.index x c.requires.index c.index-self-index.is) at in
    let goes : IsTrue (opcode_of x.op).goes_on = search rules in
    let j = index_at instrs (c.args.index + 1) (omega arith) in
    next_is c.args.self.now c.args.index i j.0 c.args.search.now.found.items.items c.meet_at.new.search.found.items.items c.requires.code at j.1 (subst (λ (y : Instr). IsTrue (opcode_of y.op).goes_on) same goes) c.in_ok-meet_at.ensures.grown
