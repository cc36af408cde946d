use Rattle.std.proofs.Common.{◌<◌, ◌+◌, List, length, take, subst, sym, arith}
use Rattle.std.proofs.lemmas.Grind.{common_steps}
use Rattle.worklists.specs.Growth.{FromOne, Meets}
use Rattle.worklists.proofs.Closing.{goes_on, Closing}
use Rattle.plain_slice.specs.declared.table.Pair.{Pair}
use Rattle.plain_slice.specs.Rules.{Follows, Joins}
use Rattle.plain_slice.proofs.Leveling.{IsLevel, by_one, by_two, exact, none_yet, begins, one_more, still_own}
use Rattle.plain_slice.proofs.levels.levels.Goals as goal

pub loop-n-init : goal.loop-n-init
loop-n-init c =
    let e = c.new-pairs.ensures.items in
    record {
      table = grind (arith, common_steps);
      own = λ n lt. absurd (omega arith);
      begun = subst (λ (xs : List Pair). Closing (IsLevel c.args.edges.now) (Follows c.args.edges.now) (Joins c.args.edges.now) 0 xs) (sym e) (none_yet c.args.edges.now);
    }

pub loop-n-preserved : goal.loop-n-preserved
loop-n-preserved c = record {
  table = c.in_ok-add.ensures.table;
  own = one_more c.loop-n.n c.loop-n.pairs.items c.add.new.pairs.items c.in_ok-add.ensures.grown c.loop-n.invariant.own;
  begun = begins c.args.edges.now c.loop-n.n c.loop-n.pairs.items c.add.new.pairs.items c.in_ok-add.ensures.grown c.loop-n.invariant.begun;
}

pub loop-next-preserved : goal.loop-next-preserved
loop-next-preserved c =
    let edges = c.args.edges.now in
    let one = c.index-one.result.now in
    let old = c.loop-next.pairs.items in
    let mid = c.follow.new.pairs.items in
    let new = c.meet.new.pairs.items in
    let lt : c.loop-next.next < length old = omega (arith, c.loop-next-test.true, c.len.ensures) in
    record {
      table = c.in_ok-meet.ensures.table;
      own = still_own c.args.size mid new (FromOne (Meets (Joins edges) one) (take (c.loop-next.next + 1) mid)) c.in_ok-meet.ensures.grown (still_own c.args.size old mid (Follows edges one) c.in_ok-follow.ensures.grown c.loop-next.invariant.own);
      done = goes_on (IsLevel edges) (Follows edges) (Joins edges) (by_one edges) (by_two edges) c.loop-next.next one old mid new lt c.index-one.ensures c.in_ok-follow.ensures.grown c.in_ok-meet.ensures.grown c.loop-next.invariant.done;
    }

pub returns : goal.returns
returns c = record {
  below = c.loop-next.invariant.table.below;
  exact = λ n x lt. exact c.args.edges.now c.args.size c.requires.edges c.loop-next.next c.loop-next.pairs.items (omega (arith, c.loop-next-test.false, c.len.ensures)) c.loop-next.invariant.done c.loop-next.invariant.own n x lt;
}
