use Rattle.std.proofs.Common.{◌≡◌, ◌<◌, subst, take, length, arith}
use Rattle.worklists.specs.Growth.{Grows, FromOne, Meets}
use Rattle.worklists.proofs.Growing.{at_front}
use Rattle.worklists.proofs.Closing.{meet_more}
use Rattle.plain_slice.specs.Rules.{Joins}
use Rattle.plain_slice.proofs.levels.meet.Goals as goal

pub loop-k-preserved : goal.loop-k-preserved
loop-k-preserved c =
    let old = c.args.pairs.now.items in
    let lt : c.loop-k.k < length old = omega (arith, c.requires.count, c.loop-k-test.true) in
    record {
      table = c.in_ok-join-2.ensures.table;
      grown = meet_more (Joins c.args.edges.now) c.args.one c.index-other.result.now old c.loop-k.k old c.loop-k.pairs.items c.join.new.pairs.items c.join-in-loop-k.new.pairs.items lt
          (at_front old c.loop-k.pairs.items (FromOne (Meets (Joins c.args.edges.now) c.args.one) (take c.loop-k.k old)) c.loop-k.k c.index-other.result.now c.loop-k.invariant.grown lt c.index-other.ensures)
          c.loop-k.invariant.grown c.in_ok-join.ensures.grown c.in_ok-join-2.ensures.grown;
    }

pub returns-clause-grown : goal.returns-clause-grown
returns-clause-grown c =
    let end : c.loop-k.k ≡ c.args.count = omega (arith, c.loop-k.auto.k-end, c.loop-k-test.false) in
    subst (λ n. Grows c.args.pairs.now.items c.loop-k.pairs.items (FromOne (Meets (Joins c.args.edges.now) c.args.one) (take n c.args.pairs.now.items))) end c.loop-k.invariant.grown
