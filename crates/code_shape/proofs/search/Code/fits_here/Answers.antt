use Rattle.std.proofs.Common.{rules, ◌≡◌, ◌<◌, ◌≤◌, ◌+◌, ◌-◌, ℕ, List, [], take, get_or, length, Contains, inl, inr, refl, sym, ap, subst, ◌∙◌, arith, length-set}
use Rattle.std.proofs.lemmas.List.{take_all}
use Rattle.std.proofs.lemmas.List.Elements.{Contains-get_or}
use Rattle.worklists.specs.Growth.{Grows, FromOne}
use Rattle.worklist.specs.Worklists.{IsWorklist}
use Rattle.worklists.proofs.Growing.{Grows-same, Grows-more, Grows-kept}
use Rattle.worklists.proofs.ClosingOne.{Closing, begins, goes_on}
use Rattle.class_form.specs.declared.body.Instr.{Instr}
use Rattle.class_form.specs.Shapes.{IsReachable, AreDepths}
use Rattle.std.specs.Prelude.{IsTrue, true, false}
use Rattle.worklist.specs.Worklists.{is_marked}
use Rattle.class_form.specs.Table.{opcode_of}
use Rattle.code_shape.specs.declared.covers.Cover.{Cover}
use Rattle.code_shape.specs.Codes.{IsAt, IsIndexOf}
use Rattle.code_shape.specs.Searches.{IsCode, IsSearch, IsForced, IsNext, IsHandler, Steps, IsReachedAt}
use Rattle.std.proofs.lemmas.Option.{slice_get_within, slice_get-get_or, get_or_from_slice_get}
use Rattle.code_shape.specs.Searches.{IsDone, HasDepth, Fits, depth_in}
use Rattle.code_shape.proofs.Fitting.{last_only, last_ends, none_runs_off, runs_off, has_depth_at, no_depth, no_depth_after, depth_next, handlers_by_covers, covers_by_handlers, together, fits_where, first_zero}
use Rattle.code_shape.proofs.Orders.{each_more, each_all, read_at, there_at, index_in}
use Rattle.code_shape.proofs.Searching.{one_index, same_instr, forced_more, already, index_of_pc, next_is, no_next, last_next, handlers_are, steps_are, by_one, exact, handler_start, handler_forced, after_forced, index_at, start_reached}
use Rattle.code_shape.proofs.search.Code.fits_here.Goals as goal

pub returns-then-not-all_have_depth : goal.returns-then-not-all_have_depth
returns-then-not-all_have_depth c = (
  λ h. absurd (cc h),
  λ fit. absurd (cc (c.all_have_depth.ensures.1 (λ pc has.
      subst (λ (n : ℕ). HasDepth c.args.self.now c.args.depths.now n pc) (sym c.depth_after-after.ensures) (fit.targets pc (subst (λ (xs : List ℕ). Contains xs pc) c.items.ensures has))))),
)

pub returns-then-not-next_has_depth : goal.returns-then-not-next_has_depth
returns-then-not-next_has_depth c = (
  λ h. absurd (cc h),
  λ fit. absurd (cc ((c.next_has_depth.ensures c.args.instr.now c.requires.index).1 (λ goes.
      subst (λ (n : ℕ). HasDepth c.args.self.now c.args.depths.now n (c.args.instr.now.pc + c.args.instr.now.size)) (sym c.depth_after-after.ensures) (fit.next goes)))),
)

pub returns-then-not-handlers_have_depth : goal.returns-then-not-handlers_have_depth
returns-then-not-handlers_have_depth c = (λ h. absurd (cc h), λ fit. absurd (cc ((c.handlers_have_depth.ensures c.args.instr.now c.requires.index).1 fit.handlers)))

pub returns : goal.returns
returns c =
    let self = c.args.self.now in
    let depths = c.args.depths.now in
    let i = c.args.instr.now in
    let e = c.depth_after-after.ensures in
    let targets = c.all_have_depth.ensures.0 c.if-not-all_have_depth.false in
    let next = (c.next_has_depth.ensures i c.requires.index).0 c.if-not-next_has_depth.false in
    let handlers = (c.handlers_have_depth.ensures i c.requires.index).0 c.if-not-handlers_have_depth.false in (
      λ h. record {
        operands = omega (arith, c.taken.ensures.taken);
        result = omega (arith, e);
        targets = λ pc has. subst (λ (n : ℕ). HasDepth self depths n pc) e (targets pc (subst (λ (xs : List ℕ). Contains xs pc) (sym c.items.ensures) has));
        next = λ goes. subst (λ (n : ℕ). HasDepth self depths n (i.pc + i.size)) e (next goes);
        handlers = handlers;
      },
      λ h. search rules,
    )
