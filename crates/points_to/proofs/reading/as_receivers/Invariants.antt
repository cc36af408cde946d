use Rattle.std.proofs.Common.{take}
use Rattle.points_to.specs.Solved.{IsReceiverUpTo}
use Rattle.slicer_ids.specs.Sets.{IsOrderedListOf}
use Rattle.dep_form.specs.Solutions.{ReceiverBefore}
use Rattle.points_to.proofs.reading.as_receivers.Given as goal

abbrev pub invariant-loop-number : goal.invariant-loop-number
invariant-loop-number l = IsOrderedListOf ReceiverBefore l.all.items (IsReceiverUpTo l.alone (take l.number-index l.numbers))
