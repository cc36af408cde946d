use Rattle.std.proofs.Common.{◌≡◌, take}
use Rattle.constraints.specs.Calls.{flags_of}
use Rattle.constraints.proofs.references.each.Given as goal

abbrev pub invariant-loop-argument : goal.invariant-loop-argument
invariant-loop-argument l = l.flags.items ≡ flags_of l.receiver (take l.argument-index l.arguments)
