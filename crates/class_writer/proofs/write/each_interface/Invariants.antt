use Rattle.std.proofs.Common.{◌≡◌, ◌++◌, take}
use Rattle.std.specs.List.{flat_map}
use Rattle.byteorder.specs.Endian.{big_bytes}
use Rattle.class_writer.proofs.write.each_interface.Given as goal

abbrev pub invariant-loop-i : goal.invariant-loop-i
invariant-loop-i l = l.output ≡ l.fn.output ++ flat_map (big_bytes 2) (take l.i-index l.interfaces)
