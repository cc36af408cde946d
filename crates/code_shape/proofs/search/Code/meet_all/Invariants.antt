use Rattle.std.proofs.Common.{rules, ◌≡◌, ◌<◌, ◌≤◌, ◌+◌, ◌-◌, ℕ, List, [], take, get_or, length, Contains, inl, inr, refl, sym, ap, subst, ◌∙◌, arith, length-set}
use Rattle.std.proofs.lemmas.List.{take_all}
use Rattle.std.proofs.lemmas.List.Elements.{Contains-get_or}
use Rattle.worklists.specs.Growth.{Grows, FromOne}
use Rattle.worklist.specs.Worklists.{IsWorklist}
use Rattle.worklists.proofs.Growing.{Grows-same, Grows-more, Grows-kept}
use Rattle.worklists.proofs.ClosingOne.{Closing, begins, goes_on}
use Rattle.class_form.specs.declared.body.Instr.{Instr}
use Rattle.class_form.specs.Shapes.{IsReachable, AreDepths}
use Rattle.code_shape.specs.declared.covers.Cover.{Cover}
use Rattle.code_shape.specs.Codes.{IsAt, IsIndexOf}
use Rattle.code_shape.specs.Searches.{IsCode, IsSearch, IsForced, IsNext, IsHandler, Steps, IsReachedAt}
use Rattle.code_shape.proofs.Orders.{read_at, there_at, index_in}
use Rattle.code_shape.proofs.Searching.{one_index, same_instr, forced_more, already, index_of_pc, next_is, no_next, last_next, handlers_are, steps_are, by_one, exact}
use Rattle.code_shape.proofs.search.Code.meet_all.Given as goal

abbrev pub invariant-loop-pc : goal.invariant-loop-pc
invariant-loop-pc l = record {
  search : IsSearch l.self l.search;
  grown : Grows l.initial.search.found.items.items l.search.found.items.items (FromOne (IsIndexOf l.self.instrs.now) (take l.pc-index l.pcs));
}
