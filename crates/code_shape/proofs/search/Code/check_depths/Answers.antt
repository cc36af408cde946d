use Rattle.std.proofs.Common.{rules, ◌≡◌, ◌<◌, ◌≤◌, ◌+◌, ◌-◌, ℕ, List, [], take, get_or, length, Contains, inl, inr, refl, sym, ap, subst, ◌∙◌, arith, length-set}
use Rattle.std.proofs.lemmas.List.{take_all}
use Rattle.std.proofs.lemmas.List.Elements.{Contains-get_or}
use Rattle.worklists.specs.Growth.{Grows, FromOne}
use Rattle.worklist.specs.Worklists.{IsWorklist}
use Rattle.worklists.proofs.Growing.{Grows-same, Grows-more, Grows-kept}
use Rattle.worklists.proofs.ClosingOne.{Closing, begins, goes_on}
use Rattle.class_form.specs.declared.body.Instr.{Instr}
use Rattle.class_form.specs.Shapes.{IsReachable, AreDepths}
use Rattle.std.specs.Prelude.{IsTrue, true, false}
use Rattle.worklist.specs.Worklists.{is_marked}
use Rattle.class_form.specs.Table.{opcode_of}
use Rattle.code_shape.specs.declared.covers.Cover.{Cover}
use Rattle.code_shape.specs.Codes.{IsAt, IsIndexOf}
use Rattle.code_shape.specs.Searches.{IsCode, IsSearch, IsForced, IsNext, IsHandler, Steps, IsReachedAt}
use Rattle.std.proofs.lemmas.Option.{slice_get_within, slice_get-get_or, get_or_from_slice_get}
use Rattle.code_shape.specs.Searches.{IsDone, HasDepth, Fits, depth_in}
use Rattle.code_shape.proofs.Fitting.{last_only, last_ends, none_runs_off, runs_off, has_depth_at, no_depth, no_depth_after, depth_next, handlers_by_covers, covers_by_handlers, together, fits_where, first_zero}
use Rattle.code_shape.proofs.Orders.{each_more, each_all, read_at, there_at, index_in}
use Rattle.code_shape.proofs.Searching.{one_index, same_instr, forced_more, already, index_of_pc, next_is, no_next, last_next, handlers_are, steps_are, by_one, exact, handler_start, handler_forced, after_forced, index_at, start_reached}
use Rattle.code_shape.proofs.search.Code.check_depths.Goals as goal

pub returns-then-depths-ne0-clause-no : goal.returns-then-depths-ne0-clause-no
returns-then-depths-ne0-clause-no c = λ e f are.
    let first = first_zero c.args.self.now c.args.search.now c.requires.code c.requires.search f are c.requires.some in
    absurd (omega (arith, first, ap (λ (xs : List ℕ). get_or xs 0 0) c.as_slice-depths.ensures.value))

pub returns-then-not-all_fit-clause-no : goal.returns-then-not-all_fit-clause-no
returns-then-not-all_fit-clause-no c = λ e f are.
    let bad = c.all_fit.ensures.no c.if-not-all_fit.true in
    let has = subst (λ (xs : List ℕ). Contains xs bad.0) c.as_slice.ensures.value bad.2 in
    bad.4 (subst (λ (xs : List ℕ). Fits c.args.self.now xs bad.1 (get_or xs bad.0 0)) (sym c.as_slice-depths.ensures.value) (fits_where c.args.self.now c.args.search.now c.requires.code c.requires.search f are bad.0 bad.1 has bad.3))

pub returns-clause-yes : goal.returns-clause-yes
returns-clause-yes c = λ e.
    let all = c.all_fit.ensures.yes c.if-not-all_fit.false in
    let v = c.as_slice-depths.ensures.value in
    together c.args.self.now c.args.search.now c.requires.code c.requires.search (ap (λ (xs : List ℕ). get_or xs 0 0) (sym v) ∙ c.if-depths-ne0.false) c.requires.some c.requires.ends
    (λ k i has at. subst (λ (xs : List ℕ). Fits c.args.self.now xs i (get_or xs k 0)) v (all k i (subst (λ (xs : List ℕ). Contains xs k) (sym c.as_slice.ensures.value) has) at))
