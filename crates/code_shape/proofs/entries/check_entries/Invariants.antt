use Rattle.std.proofs.Common.{All, take}
use Rattle.class_form.specs.Shapes.{IsEntry}
use Rattle.code_shape.proofs.entries.check_entries.Given as goal

abbrev pub invariant-loop-entry : goal.invariant-loop-entry
invariant-loop-entry l = All (IsEntry l.body l.instrs) (take l.entry-index l.entries)
