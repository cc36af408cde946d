use Rattle.std.proofs.Common.{◌≡◌, ◌<◌, ◌≤◌, ◌+◌, ◌-◌, ℕ, List, [], take, get_or, length, Contains, refl, sym, ap, subst, ◌∙◌, arith}
use Rattle.worklists.specs.Growth.{Grows, FromOne}
use Rattle.worklists.proofs.Growing.{FromBelow, Grows-same, Grows-next, Grows-more}
use Rattle.class_form.specs.declared.class_file.Handler.{Handler}
use Rattle.code_shape.specs.declared.covers.Range.{Range}
use Rattle.code_shape.specs.declared.covers.Cover.{Cover}
use Rattle.code_shape.specs.Covers.{range_of, cover, RangeBefore, CoverBefore, CoversFrom, CoveredBy, IsCovered}
use Rattle.code_shape.proofs.Covered.{none_within, first_le, covers_within, one_range, done_next, covered_is, index_le, part_order, part_members}
use Rattle.code_shape.proofs.covers.covers_of.Goals as goal

pub returns-clause-members : goal.returns-clause-members
returns-clause-members c = λ x.
    covered_is c.args.body.now c.args.instrs.now c.in_ok-listed.listed.items c.in_ok-ranges.ranges.items c.in_ok-found.found.items c.in_ok-covers.covers.items
    (subst (λ (xs : List Handler). Grows [] c.in_ok-listed.listed.items (FromOne (λ (e : Handler) (r : Range). r ≡ range_of e) xs)) c.items-entries.ensures c.in_ok-listed.ensures)
    c.in_ok-ranges.ensures.members
    (subst (λ (xs : List Range). Grows [] c.in_ok-found.found.items (FromOne (CoveredBy c.args.instrs.now) xs)) c.as_slice.ensures.value c.in_ok-found.ensures)
    c.in_ok-covers.ensures.members x
