use Rattle.worklists.proofs.Growing.{FromBelow}
use Rattle.mod_ref.specs.Gains.{Gains}
use Rattle.input_tables.specs.Effects.{AtNumber}
use Rattle.input_tables.proofs.outside.add_calls.Given as goal

abbrev pub invariant-loop-number : goal.invariant-loop-number
invariant-loop-number l = Gains l.initial.effects.items l.effects.items (FromBelow (AtNumber l.scene.system.now l.scene.effects.now l.way) l.number)
