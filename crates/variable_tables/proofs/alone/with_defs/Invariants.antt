use Rattle.std.proofs.Common.{◌++◌, List, take}
use Rattle.class_form.specs.declared.body.Def.{Def}
use Rattle.variable_tables.specs.Operands.{IsSeen}
use Rattle.variable_tables.proofs.alone.with_defs.Given as goal

abbrev pub invariant-loop-def : goal.invariant-loop-def
invariant-loop-def l = (ds : List Def) → IsSeen ds l.fn.seen → IsSeen (ds ++ take l.def-index l.defs) l.all
