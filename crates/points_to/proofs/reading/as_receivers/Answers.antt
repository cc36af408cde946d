use Rattle.std.proofs.Common.{subst}
use Rattle.points_to.specs.Solved.{IsReceiverUpTo}
use Rattle.points_to.proofs.Listed.{one_receiver, get_or_itself}
use Rattle.slicer_ids.specs.Sets.{IsOrderedListOf}
use Rattle.dep_form.specs.Solutions.{ReceiverBefore}
use Rattle.std.proofs.lemmas.List.{take_all}
use Rattle.points_to.proofs.reading.as_receivers.Goals as goal

pub loop-number-preserved : goal.loop-number-preserved
loop-number-preserved c = one_receiver c.args.alone c.args.numbers.now c.loop-number.number-index _ c.loop-number.all.items c.push.new.self.items c.requires c.loop-number-test.true (get_or_itself c.args.numbers.now c.loop-number.number-index _ c.loop-number-test.true) c.in_ok-push.ensures.items c.loop-number.invariant

pub returns : goal.returns
returns c = subst (λ xs. IsOrderedListOf ReceiverBefore c.loop-number.all.items (IsReceiverUpTo c.args.alone xs)) (take_all c.loop-number.number-index c.args.numbers.now c.loop-number-test.false) c.loop-number.invariant
