use Rattle.std.proofs.Common.{arith}
use Rattle.hierarchy.proofs.Placing.{all_done, counted_more}
use Rattle.hierarchy.proofs.members.all_places.Goals as goal

pub loop-class-preserved : goal.loop-class-preserved
loop-class-preserved c = record {
  listed = c.in_ok-push_class.ensures.listed;
  count = counted_more c.args.kind c.args.classes.now c.loop-class.class _ _ (omega arith) c.loop-class.invariant.count (λ k h. c.in_ok-push_class.ensures.count k h);
}

pub returns-clause-places : goal.returns-clause-places
returns-clause-places c = all_done c.args.kind c.args.classes.now c.loop-class.class c.loop-class.places.items (omega arith) c.loop-class.invariant.listed
