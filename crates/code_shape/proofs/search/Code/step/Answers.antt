use Rattle.std.proofs.Common.{rules, ◌≡◌, ◌<◌, ◌≤◌, ◌+◌, ◌-◌, ℕ, List, [], take, get_or, length, Contains, inl, inr, refl, sym, ap, subst, ◌∙◌, arith, length-set}
use Rattle.std.proofs.lemmas.List.{take_all}
use Rattle.std.proofs.lemmas.List.Elements.{Contains-get_or}
use Rattle.worklists.specs.Growth.{Grows, FromOne}
use Rattle.worklist.specs.Worklists.{IsWorklist}
use Rattle.worklists.proofs.Growing.{Grows-same, Grows-more, Grows-kept}
use Rattle.worklists.proofs.ClosingOne.{Closing, begins, goes_on}
use Rattle.class_form.specs.declared.body.Instr.{Instr}
use Rattle.class_form.specs.Shapes.{IsReachable, AreDepths}
use Rattle.std.specs.Prelude.{IsTrue, true, false}
use Rattle.worklist.specs.Worklists.{is_marked}
use Rattle.class_form.specs.Table.{opcode_of}
use Rattle.code_shape.specs.declared.covers.Cover.{Cover}
use Rattle.code_shape.specs.Codes.{IsAt, IsIndexOf}
use Rattle.code_shape.specs.Searches.{IsCode, IsSearch, IsForced, IsNext, IsHandler, Steps, IsReachedAt}
use Rattle.code_shape.proofs.Orders.{read_at, there_at, index_in}
use Rattle.code_shape.proofs.Searching.{one_index, same_instr, forced_more, already, index_of_pc, next_is, no_next, last_next, handlers_are, steps_are, by_one, exact, handler_start, handler_forced, after_forced, index_at, start_reached}
use Rattle.std.proofs.lemmas.Option.{slice_get_within, slice_get-get_or, get_or_from_slice_get}
use Rattle.code_shape.proofs.search.Code.step.Goals as goal

pub meet_all-requires-clause-starts : goal.meet_all-requires-clause-starts
meet_all-requires-clause-starts c = λ pc has.
    let instrs = c.args.self.now.instrs.now in
    let lt = slice_get_within instrs c.args.index c.requires.reached.0 c.requires.reached.1 in
    let i = get_or instrs c.args.index c.index-self-index.result in
    let at = slice_get-get_or instrs c.args.index c.index-self-index.result lt in
    c.requires.code.instrs.targets i pc (there_at instrs c.args.index i at) (subst (λ (xs : List ℕ). Contains xs pc) c.items.ensures has)

pub meet_all-requires-clause-depth : goal.meet_all-requires-clause-depth
meet_all-requires-clause-depth c = λ pc has.
    let instrs = c.args.self.now.instrs.now in
    let lt = slice_get_within instrs c.args.index c.requires.reached.0 c.requires.reached.1 in
    let i = get_or instrs c.args.index c.index-self-index.result in
    let at = slice_get-get_or instrs c.args.index c.index-self-index.result lt in
    let depths = c.args.search.now.depths.items in
    let d = c.index.result.now in
    let same : get_or depths c.args.index 0 ≡ d = get_or_from_slice_get depths c.args.index d 0 (read_at depths c.args.index d (omega (arith, c.requires.search.depths, lt)) c.index.ensures) in
    after_forced c.args.self.now c.args.index i d c.after-depth.result at c.requires.reached (λ f are. sym (c.requires.search.forced f are c.args.index i c.requires.found at) ∙ same) c.after-depth.ensures pc
    (inl (subst (λ (xs : List ℕ). Contains xs pc) c.items.ensures has))

pub meet_next-requires-clause-depth : goal.meet_next-requires-clause-depth
meet_next-requires-clause-depth c = λ x pc atx next j atj.
    let instrs = c.args.self.now.instrs.now in
    let lt = slice_get_within instrs c.args.index c.requires.reached.0 c.requires.reached.1 in
    let i = get_or instrs c.args.index c.index-self-index.result in
    let at = slice_get-get_or instrs c.args.index c.index-self-index.result lt in
    let depths = c.args.search.now.depths.items in
    let d = c.index.result.now in
    let same : get_or depths c.args.index 0 ≡ d = get_or_from_slice_get depths c.args.index d 0 (read_at depths c.args.index d (omega (arith, c.requires.search.depths, lt)) c.index.ensures) in
    let one = same_instr instrs c.args.index x i atx at in
    let e = ap (λ (y : Instr). y.pc) (same_instr instrs pc j next.1.0 atj next.1.1) ∙ next.1.2 in
    after_forced c.args.self.now c.args.index i d c.after-depth.result at c.requires.reached (λ f are. sym (c.requires.search.forced f are c.args.index i c.requires.found at) ∙ same) c.after-depth.ensures j.pc
    (inr (subst (λ (y : Instr). IsTrue (opcode_of y.op).goes_on) one next.0, e ∙ ap (λ (y : Instr). y.pc + y.size) one))

pub returns-clause-grown : goal.returns-clause-grown
returns-clause-grown c =
    let instrs = c.args.self.now.instrs.now in
    let lt = slice_get_within instrs c.args.index c.requires.reached.0 c.requires.reached.1 in
    let i = get_or instrs c.args.index c.index-self-index.result in
    let at = slice_get-get_or instrs c.args.index c.index-self-index.result lt in
    steps_are c.args.self.now c.args.index i c.args.search.now.found.items.items c.meet_all.new.search.found.items.items c.meet_next.new.search.found.items.items c.meet_handlers.new.search.found.items.items c.requires.code at
    (subst (λ (xs : List ℕ). Grows c.args.search.now.found.items.items c.meet_all.new.search.found.items.items (FromOne (IsIndexOf instrs) xs)) c.items.ensures c.in_ok-meet_all.ensures.grown)
    (c.in_ok-meet_next.ensures.grown i at) (c.in_ok-meet_handlers.ensures.grown i at)
