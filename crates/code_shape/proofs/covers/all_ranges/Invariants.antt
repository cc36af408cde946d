use Rattle.std.proofs.Common.{◌≡◌, ◌<◌, ◌≤◌, ◌-◌, ◌+◌, ℕ, take, length, get_or, [], Contains, ◌⊎◌}
use Rattle.worklists.specs.Growth.{Grows, FromOne}
use Rattle.worklists.proofs.Growing.{FromBelow}
use Rattle.code_shape.specs.declared.covers.Range.{Range}
use Rattle.code_shape.specs.declared.covers.Cover.{Cover}
use Rattle.code_shape.specs.Covers.{range_of, cover, RangeBefore, CoverBefore, CoversFrom, CoveredBy, IsCovered}
use Rattle.code_shape.proofs.covers.all_ranges.Given as goal

abbrev pub invariant-loop-entry : goal.invariant-loop-entry
invariant-loop-entry l = Grows [] l.ranges.items (FromOne (λ e r. r ≡ range_of e) (take l.entry-index l.entries))
