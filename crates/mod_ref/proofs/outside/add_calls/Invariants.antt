use Rattle.worklists.proofs.Growing.{FromBelow}
use Rattle.mod_ref.specs.Gains.{Gains}
use Rattle.mod_ref.specs.Direct.{AtNumber}
use Rattle.mod_ref.proofs.outside.add_calls.Given as goal

abbrev pub invariant-loop-number : goal.invariant-loop-number
invariant-loop-number l = Gains l.initial.effects.items.items l.effects.items.items (FromBelow (AtNumber l.system l.write) l.number)
