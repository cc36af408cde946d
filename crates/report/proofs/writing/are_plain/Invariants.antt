use Rattle.std.proofs.Common.{◌≡◌, take}
use Rattle.slicer_ids.specs.Escapes.{printed}
use Rattle.report.proofs.writing.are_plain.Given as goal

-- the bytes so far stand for themselves
abbrev pub invariant-loop-byte : goal.invariant-loop-byte
invariant-loop-byte l = printed (take l.byte-index l.name) ≡ take l.byte-index l.name
