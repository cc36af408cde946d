use Rattle.std.proofs.Common.{rules, ◌≡◌, ◌<◌, ◌≤◌, ◌+◌, ◌-◌, ℕ, List, [], take, get_or, length, Contains, inl, inr, refl, sym, ap, subst, ◌∙◌, arith, length-set}
use Rattle.std.proofs.lemmas.List.{take_all}
use Rattle.std.proofs.lemmas.List.Elements.{Contains-get_or}
use Rattle.worklists.specs.Growth.{Grows, FromOne}
use Rattle.worklist.specs.Worklists.{IsWorklist}
use Rattle.worklists.proofs.Growing.{Grows-same, Grows-more, Grows-kept}
use Rattle.worklists.proofs.ClosingOne.{Closing, begins, goes_on}
use Rattle.class_form.specs.declared.body.Instr.{Instr}
use Rattle.class_form.specs.Shapes.{IsReachable, AreDepths}
use Rattle.std.specs.Prelude.{IsTrue, true, false}
use Rattle.worklist.specs.Worklists.{is_marked}
use Rattle.class_form.specs.Table.{opcode_of}
use Rattle.code_shape.specs.declared.covers.Cover.{Cover}
use Rattle.code_shape.specs.Codes.{IsAt, IsIndexOf}
use Rattle.code_shape.specs.Searches.{IsCode, IsSearch, IsForced, IsNext, IsHandler, Steps, IsReachedAt}
use Rattle.code_shape.proofs.Orders.{read_at, there_at, index_in}
use Rattle.code_shape.proofs.Searching.{one_index, same_instr, forced_more, already, index_of_pc, next_is, no_next, last_next, handlers_are, steps_are, by_one, exact, handler_start, handler_forced, after_forced, index_at, start_reached}
use Rattle.code_shape.proofs.search.Code.meet_all.Goals as goal

pub meet-requires-clause-depth : goal.meet-requires-clause-depth
meet-requires-clause-depth c = c.requires.depth (get_or c.args.pcs.now c.loop-pc.pc-index 0) (Contains-get_or c.args.pcs.now c.loop-pc.pc-index 0 c.loop-pc-test.true)

pub meet-requires-clause-start : goal.meet-requires-clause-start
meet-requires-clause-start c = c.requires.starts (get_or c.args.pcs.now c.loop-pc.pc-index 0) (Contains-get_or c.args.pcs.now c.loop-pc.pc-index 0 c.loop-pc-test.true)

pub loop-pc-preserved : goal.loop-pc-preserved
loop-pc-preserved c = record {
  search = c.in_ok-meet.ensures.search;
  grown = Grows-more (IsIndexOf c.args.self.now.instrs.now) c.args.pcs.now c.loop-pc.pc-index 0 c.args.search.now.found.items.items c.loop-pc.search.found.items.items c.meet.new.search.found.items.items c.loop-pc-test.true c.loop-pc.invariant.grown c.in_ok-meet.ensures.grown;
}
