use Rattle.std.proofs.Common.{take, ◌≡◌}
use Rattle.worklists.specs.Growth.{FromOne}
use Rattle.mod_ref.specs.Gains.{Gains}
use Rattle.method_facts.specs.Entering.{Enters}
use Rattle.method_facts.proofs.entries.add_all_entered.Given as goal

abbrev pub invariant-loop-constraint : goal.invariant-loop-constraint
invariant-loop-constraint l = Gains l.initial.methods.items l.methods.items (FromOne (Enters l.root) (take l.constraint-index l.constraints))
