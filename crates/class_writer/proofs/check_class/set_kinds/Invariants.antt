use Rattle.std.proofs.Common.{◌≡◌, take, map}
use Rattle.const_pool.specs.Texts.{kinds_of}
use Rattle.class_writer.proofs.check_class.set_kinds.Given as goal

abbrev pub invariant-loop-i : goal.invariant-loop-i
invariant-loop-i l = take l.i l.kinds ≡ map kinds_of (take l.i l.constants)
