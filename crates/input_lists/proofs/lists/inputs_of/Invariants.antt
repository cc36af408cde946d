use Rattle.std.proofs.Common.{◌≡◌}
use Rattle.input_lists.specs.Inputs.{AreInputsBelow}
use Rattle.input_lists.proofs.lists.inputs_of.Given as goal

abbrev pub invariant-loop-m : goal.invariant-loop-m
invariant-loop-m l = AreInputsBelow l.scene l.m l.inputs.items
