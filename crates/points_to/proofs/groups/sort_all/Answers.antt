use Rattle.std.proofs.Common.{◌∙◌, arith, refl}
use Rattle.points_to.proofs.Grouping.{all_sorted, sorted_more, same_more}
use Rattle.points_to.proofs.groups.sort_all.Goals as goal

pub loop-at-init : goal.loop-at-init
loop-at-init c = record { len = refl; same = λ k x. (λ h. h, λ h. h); sorted = λ k lt. absurd (omega (arith, lt)) }

pub loop-at-preserved : goal.loop-at-preserved
loop-at-preserved c = record {
  len = c.sort_at.ensures.len ∙ c.loop-at.invariant.len;
  same = same_more c.args.groups.now.items c.loop-at.groups.items c.sort_at.new.groups.items c.loop-at.at c.sort_at.ensures c.loop-at.invariant.same;
  sorted = sorted_more c.loop-at.groups.items c.sort_at.new.groups.items c.loop-at.at c.sort_at.ensures c.loop-at.invariant.sorted;
}

pub returns-clause-same : goal.returns-clause-same
returns-clause-same c = c.loop-at.invariant.same

pub returns-clause-sorted : goal.returns-clause-sorted
returns-clause-sorted c = all_sorted c.loop-at.groups.items c.loop-at.at (omega (arith, c.loop-at.auto.at-end, c.loop-at-test.false, c.len-at-end.ensures, c.loop-at.invariant.len)) c.loop-at.invariant.sorted
