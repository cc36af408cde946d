use Rattle.std.proofs.Common.{◌≡◌, ◌++◌, take}
use Rattle.std.specs.List.{flat_map}
use Rattle.definition_lines.specs.Lines.{later_text}
use Rattle.definition_lines.proofs.lines.push_several.Given as goal

-- the definitions so far, each behind a comma
abbrev pub invariant-loop-def : goal.invariant-loop-def
invariant-loop-def l = l.text.items ≡ l.initial.text.items ++ flat_map later_text (take l.def-index l.later)
