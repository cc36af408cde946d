use Rattle.std.proofs.Common.{◌≡◌, ◌<◌, ◌≤◌, ◌-◌, ◌+◌, ℕ, take, length, get_or, [], Contains, ◌⊎◌}
use Rattle.worklists.specs.Growth.{Grows, FromOne}
use Rattle.worklists.proofs.Growing.{FromBelow}
use Rattle.code_shape.specs.declared.covers.Range.{Range}
use Rattle.code_shape.specs.declared.covers.Cover.{Cover}
use Rattle.code_shape.specs.Covers.{range_of, cover, RangeBefore, CoverBefore, CoversFrom, CoveredBy, IsCovered}
use Rattle.code_shape.proofs.covers.all_covers.Given as goal

abbrev pub invariant-loop-range : goal.invariant-loop-range
invariant-loop-range l = record {
  grown : Grows [] l.covers.items (FromOne (CoveredBy l.instrs) (take l.range-index l.ranges));
  done : (l.done ≡ 0) ⊎ ((r : Range) × Contains (take l.range-index l.ranges) r × (r.handler ≡ l.handler) × (r.end ≡ l.done));
}
