use Rattle.std.proofs.Common.{take}
use Rattle.worklists.specs.Growth.{FromOne}
use Rattle.mod_ref.specs.Gains.{Gains}
use Rattle.value_tables.specs.Values.{DefHas}
use Rattle.value_tables.proofs.operands.add_defs.Given as goal

abbrev pub invariant-loop-def : goal.invariant-loop-def
invariant-loop-def l = Gains l.initial.sites.items l.sites.items (FromOne (DefHas l.x) (take l.def-index l.defs))
