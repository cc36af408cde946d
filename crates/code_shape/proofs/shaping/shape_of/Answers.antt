use Rattle.std.proofs.Common.{rules, ◌≡◌, ◌<◌, ◌≤◌, ◌+◌, ◌-◌, ℕ, List, [], ◌∷◌, ◌++◌, take, map, length, get_or, Contains, inl, inr, refl, sym, ap, subst, ◌∙◌, arith}
use Rattle.std.specs.Prelude.{IsTrue, true, false, slice_get}
use Rattle.std.proofs.lemmas.List.{take_all}
use Rattle.std.proofs.lemmas.List.Elements.{Contains-get_or, All-contains}
use Rattle.std.proofs.lemmas.Option.{slice_get_within, slice_get-get_or, get_or_from_slice_get}
use Rattle.class_form.specs.Table.{opcode_of}
use Rattle.class_form.specs.declared.body.Instr.{Instr}
use Rattle.class_form.specs.declared.body.Point.{Point}
use Rattle.class_form.specs.Shapes.{GoesTo, Catches, HasLocal, RunsOff, IsReached, IsReachable, IsPointOf, ArePoints}
use Rattle.worklists.specs.Growth.{Grows, FromOne}
use Rattle.worklist.specs.Worklists.{is_marked}
use Rattle.worklists.proofs.Growing.{Grows-same, Grows-more, Grows-none}
use Rattle.slicer_ids.specs.Sets.{IsOrderedListOf}
use Rattle.code_shape.specs.declared.covers.Cover.{Cover}
use Rattle.code_shape.specs.Codes.{IsAt}
use Rattle.code_shape.specs.Searches.{IsCode, IsDone, depth_in}
use Rattle.code_shape.specs.Listed.{IsNextOf, handler_of}
use Rattle.code_shape.specs.Pointed.{ArePointsTo}
use Rattle.code_shape.proofs.Orders.{read_at, there_at, index_in}
use Rattle.code_shape.proofs.Listing.{grows_push}
use Rattle.code_shape.proofs.Searching.{same_instr, index_at}
use Rattle.code_shape.proofs.Pointing.{no_next_of, goes_to, ordered_next, next_small, ordered_handlers, no_points, passed, one_point, all_points}
use Rattle.std.specs.Prelude.{◌↔◌, AllPairs}
use Rattle.class_form.specs.Shapes.{Shaped, AreDepths}
use Rattle.code_shape.specs.Covers.{CoverBefore, IsCovered}
use Rattle.code_shape.proofs.Whole.{in_order, is_code}
use Rattle.code_shape.proofs.shaping.shape_of.Goals as goal

pub check_entries-requires : goal.check_entries-requires
check_entries-requires c = in_order (length c.args.body.now.code) c.args.instrs.now c.requires.instrs

pub check_locals-requires-clause-order : goal.check_locals-requires-clause-order
check_locals-requires-clause-order c = in_order (length c.args.body.now.code) c.args.instrs.now c.requires.instrs

pub covered-requires : goal.covered-requires
covered-requires c = in_order (length c.args.body.now.code) c.args.instrs.now c.requires.instrs

pub points_of-requires-clause-code : goal.points_of-requires-clause-code
points_of-requires-clause-code c =
    let v = c.as_slice.ensures.value in
    is_code (record { body = c.args.body; instrs = c.args.instrs; covers = c.as_slice.result }) c.requires.code c.requires.instrs c.in_ok-check_entries.ensures.ok
    (subst (AllPairs CoverBefore) (sym v) c.in_ok-covers.ensures.order)
    (λ x. subst (λ (xs : List Cover). Contains xs x ↔ IsCovered c.args.body.now c.args.instrs.now x) (sym v) (c.in_ok-covers.ensures.members x))

pub returns-clause-shaped : goal.returns-clause-shaped
returns-clause-shaped c = record {
  count = refl;
  formals = c.from_vec.ensures ∙ c.in_ok-formals.ensures.items;
  entries = c.in_ok-check_entries.ensures.ok;
  locals = c.in_ok-check_locals.ensures.ok;
  ends = c.in_ok-points.ensures.ends;
  depths = subst (λ (ps : List Point). (depth : ℕ → ℕ) × AreDepths c.args.body.now c.args.instrs.now depth × ArePoints c.args.body.now c.args.instrs.now depth ps) (sym c.from_vec-2.ensures) c.in_ok-points.ensures.points;
}
