use Rattle.std.proofs.Common.{◌≡◌, ◌<◌, ◌≤◌, ◌+◌, ◌-◌, ℕ, List, [], take, get_or, length, Contains, refl, sym, ap, subst, ◌∙◌, arith}
use Rattle.worklists.specs.Growth.{Grows, FromOne}
use Rattle.worklists.proofs.Growing.{FromBelow, Grows-same, Grows-next, Grows-more}
use Rattle.class_form.specs.declared.class_file.Handler.{Handler}
use Rattle.code_shape.specs.declared.covers.Range.{Range}
use Rattle.code_shape.specs.declared.covers.Cover.{Cover}
use Rattle.code_shape.specs.Covers.{range_of, cover, RangeBefore, CoverBefore, CoversFrom, CoveredBy, IsCovered}
use Rattle.code_shape.proofs.Covered.{none_within, first_le, covers_within, one_range, done_next, covered_is, index_le, part_order, part_members}
use Rattle.std.proofs.lemmas.Option.{get_or_from_slice_get, slice_get-get_or}
use Rattle.code_shape.proofs.covers.all_covers.Goals as goal

pub loop-range-preserved : goal.loop-range-preserved
loop-range-preserved c =
    let n = c.loop-range.range-index in
    let ranges = c.args.ranges.now in
    let r : Range = get_or ranges n (record { handler = 0; start = 0; end = 0 }) in
    let at : r ≡ get_or ranges n r = sym (get_or_from_slice_get ranges n r r (slice_get-get_or ranges n (record { handler = 0; start = 0; end = 0 }) c.loop-range-test.true)) in
    record {
      grown = one_range c.args.instrs.now ranges n r c.loop-range-test.true at c.requires.ranges c.loop-range.handler c.loop-range.done c.start_of-from.result c.loop-range.invariant.done c.start_of-from.ensures.low c.start_of-from.ensures.skipped c.loop-range.covers.items c.put_covers.new.covers.items c.loop-range.invariant.grown c.in_ok-put_covers.ensures;
      done = done_next c.args.instrs.now ranges n r c.loop-range-test.true at c.requires.ranges c.loop-range.handler c.loop-range.done c.start_of-from.result c.loop-range.invariant.done c.start_of-from.ensures.low c.start_of-from.ensures.skipped c.done_by-done.result c.done_by-done.ensures;
    }
