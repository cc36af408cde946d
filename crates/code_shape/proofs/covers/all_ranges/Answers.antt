use Rattle.std.proofs.Common.{◌≡◌, ◌<◌, ◌≤◌, ◌+◌, ◌-◌, ℕ, List, [], take, get_or, length, Contains, refl, sym, ap, subst, ◌∙◌, arith}
use Rattle.worklists.specs.Growth.{Grows, FromOne}
use Rattle.worklists.proofs.Growing.{FromBelow, Grows-same, Grows-next, Grows-more}
use Rattle.class_form.specs.declared.class_file.Handler.{Handler}
use Rattle.code_shape.specs.declared.covers.Range.{Range}
use Rattle.code_shape.specs.declared.covers.Cover.{Cover}
use Rattle.code_shape.specs.Covers.{range_of, cover, RangeBefore, CoverBefore, CoversFrom, CoveredBy, IsCovered}
use Rattle.code_shape.proofs.Covered.{none_within, first_le, covers_within, one_range, done_next, covered_is, index_le, part_order, part_members}
use Rattle.code_shape.proofs.covers.all_ranges.Goals as goal

pub loop-entry-preserved : goal.loop-entry-preserved
loop-entry-preserved c = Grows-more (λ (e : Handler) (r : Range). r ≡ range_of e) c.args.entries.now c.loop-entry.entry-index _ [] c.loop-entry.ranges.items c.put_range.new.ranges.items c.loop-entry-test.true c.loop-entry.invariant c.in_ok-put_range.ensures
