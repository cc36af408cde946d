use Rattle.std.proofs.Common.{take}
use Rattle.worklists.specs.Growth.{FromOne}
use Rattle.mod_ref.specs.Gains.{Gains}
use Rattle.value_tables.specs.Methods.{VarHas}
use Rattle.value_tables.proofs.calls.add_arguments.Given as goal

abbrev pub invariant-loop-var : goal.invariant-loop-var
invariant-loop-var l = Gains l.initial.sites.items l.sites.items (FromOne (VarHas l.x.system.now) (take l.var-index l.vars))
