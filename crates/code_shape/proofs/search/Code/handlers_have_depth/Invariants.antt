use Rattle.std.proofs.Common.{rules, ◌≡◌, ◌<◌, ◌≤◌, ◌+◌, ◌-◌, ℕ, List, [], take, get_or, length, Contains, inl, inr, refl, sym, ap, subst, ◌∙◌, arith, length-set}
use Rattle.std.proofs.lemmas.List.{take_all}
use Rattle.std.proofs.lemmas.List.Elements.{Contains-get_or}
use Rattle.worklists.specs.Growth.{Grows, FromOne}
use Rattle.worklist.specs.Worklists.{IsWorklist}
use Rattle.worklists.proofs.Growing.{Grows-same, Grows-more, Grows-kept}
use Rattle.worklists.proofs.ClosingOne.{Closing, begins, goes_on}
use Rattle.class_form.specs.declared.body.Instr.{Instr}
use Rattle.class_form.specs.Shapes.{IsReachable, AreDepths}
use Rattle.std.specs.Prelude.{IsTrue, true, false}
use Rattle.worklist.specs.Worklists.{is_marked}
use Rattle.class_form.specs.Table.{opcode_of}
use Rattle.code_shape.specs.declared.covers.Cover.{Cover}
use Rattle.code_shape.specs.Codes.{IsAt, IsIndexOf}
use Rattle.code_shape.specs.Searches.{IsCode, IsSearch, IsForced, IsNext, IsHandler, Steps, IsReachedAt}
use Rattle.std.proofs.lemmas.Option.{slice_get_within, slice_get-get_or, get_or_from_slice_get}
use Rattle.code_shape.specs.Searches.{IsDone, HasDepth, Fits, depth_in}
use Rattle.code_shape.proofs.Fitting.{last_only, last_ends, none_runs_off, runs_off, has_depth_at, no_depth, no_depth_after, depth_next, handlers_by_covers, covers_by_handlers, together, fits_where, first_zero}
use Rattle.code_shape.proofs.Orders.{read_at, there_at, index_in}
use Rattle.code_shape.proofs.Searching.{one_index, same_instr, forced_more, already, index_of_pc, next_is, no_next, last_next, handlers_are, steps_are, by_one, exact, handler_start, handler_forced, after_forced, index_at, start_reached}
use Rattle.code_shape.proofs.search.Code.handlers_have_depth.Given as goal

abbrev pub invariant-loop-cover : goal.invariant-loop-cover
invariant-loop-cover l = (x : Cover) → Contains (take l.cover-index l.covers) x → HasDepth l.self l.depths 1 x.handler
