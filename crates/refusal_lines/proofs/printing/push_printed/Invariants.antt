use Rattle.std.proofs.Common.{◌≡◌, ◌++◌, take}
use Rattle.slicer_ids.specs.Escapes.{printed}
use Rattle.refusal_lines.proofs.printing.push_printed.Given as goal

-- the bytes so far as they are printed
abbrev pub invariant-loop-byte : goal.invariant-loop-byte
invariant-loop-byte l = l.text.items ≡ l.initial.text.items ++ printed (take l.byte-index l.name)
