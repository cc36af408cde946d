use Rattle.std.proofs.Common.{take, ◌≡◌, []}
use Rattle.worklists.specs.Growth.{FromOne}
use Rattle.mod_ref.specs.Gains.{Gains}
use Rattle.method_facts.specs.Entering.{Gives}
use Rattle.method_facts.proofs.given.gather.Given as goal

abbrev pub invariant-loop-constraint : goal.invariant-loop-constraint
invariant-loop-constraint l = Gains l.initial.variables.items l.variables.items (FromOne (Gives l.root) (take l.constraint-index l.constraints))
