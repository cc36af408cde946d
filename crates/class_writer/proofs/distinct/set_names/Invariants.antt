use Rattle.std.proofs.Common.{◌≡◌, take}
use Rattle.class_writer.specs.Names.{names_of}
use Rattle.class_writer.proofs.distinct.set_names.Given as goal

abbrev pub invariant-loop-i : goal.invariant-loop-i
invariant-loop-i l = take l.i l.names ≡ names_of (take l.i l.members)
