use Rattle.std.proofs.Common.{◌≡◌, map, take}
use Rattle.words.specs.Names.{with_slash}
use Rattle.words.proofs.reading.slashed.Given as goal

abbrev pub invariant-loop-byte : goal.invariant-loop-byte
invariant-loop-byte l = l.bytes.items ≡ map with_slash (take l.byte-index l.name)
