use Rattle.std.proofs.Common.{◌≡◌, ◌<◌, ◌≤◌, ◌+◌, ◌-◌, ℕ, List, [], take, get_or, length, Contains, refl, sym, ap, subst, ◌∙◌, arith}
use Rattle.worklists.specs.Growth.{Grows, FromOne}
use Rattle.worklists.proofs.Growing.{FromBelow, Grows-same, Grows-next, Grows-more}
use Rattle.class_form.specs.declared.class_file.Handler.{Handler}
use Rattle.code_shape.specs.declared.covers.Range.{Range}
use Rattle.code_shape.specs.declared.covers.Cover.{Cover}
use Rattle.code_shape.specs.Covers.{range_of, cover, RangeBefore, CoverBefore, CoversFrom, CoveredBy, IsCovered}
use Rattle.code_shape.proofs.Covered.{none_within, first_le, covers_within, one_range, done_next, covered_is, index_le, part_order, part_members, low_le}
use Rattle.code_shape.proofs.covers.covers_at.Goals as goal

pub first_cover-low-requires : goal.first_cover-low-requires
first_cover-low-requires c = index_le c.args.covers.now c.requires.order

pub first_cover-high-requires : goal.first_cover-high-requires
first_cover-high-requires c = index_le c.args.covers.now c.requires.order

pub slice_bounds-result-count : goal.slice_bounds-result-count
slice_bounds-result-count c = low_le c.args.covers.now c.requires.order c.args.index c.first_cover-low.result c.first_cover-high.result c.first_cover-high.ensures.within c.first_cover-low.ensures.before c.first_cover-low.ensures.after c.first_cover-high.ensures.before c.first_cover-high.ensures.after c.first_cover-low.ensures.within

pub slice_bounds-result-start : goal.slice_bounds-result-start
slice_bounds-result-start c =
    let le = low_le c.args.covers.now c.requires.order c.args.index c.first_cover-low.result c.first_cover-high.result c.first_cover-high.ensures.within c.first_cover-low.ensures.before c.first_cover-low.ensures.after c.first_cover-high.ensures.before c.first_cover-high.ensures.after c.first_cover-low.ensures.within in
    le

pub returns-clause-order : goal.returns-clause-order
returns-clause-order c = part_order c.args.covers.now c.requires.order c.args.index c.first_cover-low.result c.first_cover-high.result c.first_cover-high.ensures.within c.first_cover-low.ensures.before c.first_cover-low.ensures.after c.first_cover-high.ensures.before c.first_cover-high.ensures.after

pub returns-clause-members : goal.returns-clause-members
returns-clause-members c = part_members c.args.covers.now c.requires.order c.args.index c.first_cover-low.result c.first_cover-high.result c.first_cover-high.ensures.within c.first_cover-low.ensures.before c.first_cover-low.ensures.after c.first_cover-high.ensures.before c.first_cover-high.ensures.after
