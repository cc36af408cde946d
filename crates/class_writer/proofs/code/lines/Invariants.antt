use Rattle.std.proofs.Common.{◌≡◌, ◌++◌, take}
use Rattle.std.specs.List.{flat_map}
use Rattle.class_form.specs.Spelling.{spell_line}
use Rattle.class_writer.proofs.code.lines.Given as goal

abbrev pub invariant-loop-pc : goal.invariant-loop-pc
invariant-loop-pc l = l.output ≡ l.fn.output ++ flat_map spell_line (take l.pc-index l.lines)
