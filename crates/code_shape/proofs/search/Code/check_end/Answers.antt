use Rattle.std.proofs.Common.{rules, ◌≡◌, ◌<◌, ◌≤◌, ◌+◌, ◌-◌, ℕ, List, [], take, get_or, length, Contains, inl, inr, refl, sym, ap, subst, ◌∙◌, arith, length-set}
use Rattle.std.proofs.lemmas.List.{take_all}
use Rattle.std.proofs.lemmas.List.Elements.{Contains-get_or}
use Rattle.worklists.specs.Growth.{Grows, FromOne}
use Rattle.worklist.specs.Worklists.{IsWorklist}
use Rattle.worklists.proofs.Growing.{Grows-same, Grows-more, Grows-kept}
use Rattle.worklists.proofs.ClosingOne.{Closing, begins, goes_on}
use Rattle.class_form.specs.declared.body.Instr.{Instr}
use Rattle.class_form.specs.Shapes.{IsReachable, AreDepths}
use Rattle.std.specs.Prelude.{IsTrue, true, false}
use Rattle.worklist.specs.Worklists.{is_marked}
use Rattle.class_form.specs.Table.{opcode_of}
use Rattle.code_shape.specs.declared.covers.Cover.{Cover}
use Rattle.code_shape.specs.Codes.{IsAt, IsIndexOf}
use Rattle.code_shape.specs.Searches.{IsCode, IsSearch, IsForced, IsNext, IsHandler, Steps, IsReachedAt}
use Rattle.std.proofs.lemmas.Option.{slice_get_within, slice_get-get_or, get_or_from_slice_get}
use Rattle.code_shape.specs.Searches.{IsDone, HasDepth, Fits, depth_in}
use Rattle.code_shape.proofs.Fitting.{last_only, last_ends, none_runs_off, runs_off, has_depth_at, no_depth, no_depth_after, depth_next, handlers_by_covers, covers_by_handlers, together, fits_where, first_zero}
use Rattle.code_shape.proofs.Orders.{read_at, there_at, index_in}
use Rattle.code_shape.proofs.Searching.{one_index, same_instr, forced_more, already, index_of_pc, next_is, no_next, last_next, handlers_are, steps_are, by_one, exact, handler_start, handler_forced, after_forced, index_at, start_reached}
use Rattle.code_shape.proofs.search.Code.check_end.Goals as goal

pub returns-then-not-index-clause-ok : goal.returns-then-not-index-clause-ok
returns-then-not-index-clause-ok c =
    let n = length c.args.self.now.instrs.now - 1 in
    let unmarked : is_marked c.args.search.now.found.marks.items n ≡ false = search rules in
    none_runs_off c.args.self.now c.args.search.now n c.requires.code c.requires.search (omega (arith, c.requires.some)) (λ x at. inl unmarked)

pub returns-then-not-goes_on-clause-ok : goal.returns-then-not-goes_on-clause-ok
returns-then-not-goes_on-clause-ok c =
    let instrs = c.args.self.now.instrs.now in
    let n = length instrs - 1 in
    let i = get_or instrs n c.index-self-last.result in
    let at = slice_get-get_or instrs n c.index-self-last.result (omega (arith, c.requires.some)) in
    let never : IsTrue (opcode_of i.op).goes_on → ⊥ = search rules in
    none_runs_off c.args.self.now c.args.search.now n c.requires.code c.requires.search (omega (arith, c.requires.some))
    (λ x atx. inr (subst (λ (y : Instr). IsTrue (opcode_of y.op).goes_on → ⊥) (same_instr instrs n i x at atx) never))

pub returns-clause-err : goal.returns-clause-err
returns-clause-err c =
    let instrs = c.args.self.now.instrs.now in
    let n = length instrs - 1 in
    let i = get_or instrs n c.index-self-last.result in
    let at = slice_get-get_or instrs n c.index-self-last.result (omega (arith, c.requires.some)) in
    let goes : IsTrue (opcode_of i.op).goes_on = search rules in
    let marks = c.args.search.now.found.marks.items in
    let r = c.index.result.now in
    let marked : is_marked marks n ≡ true = get_or_from_slice_get marks n r false (read_at marks n r (omega (arith, c.requires.search.search.size, c.requires.some)) c.index.ensures) ∙ c.if-not-index.false in
    (i.pc, refl, runs_off c.args.self.now c.args.search.now n i c.requires.code c.requires.search at (omega (arith, c.requires.some)) marked goes)
