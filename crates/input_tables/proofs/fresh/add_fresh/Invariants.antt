use Rattle.worklists.proofs.Growing.{FromBelow}
use Rattle.mod_ref.specs.Gains.{Gains}
use Rattle.input_tables.specs.Effects.{AtFresh}
use Rattle.input_tables.proofs.fresh.add_fresh.Given as goal

abbrev pub invariant-loop-site : goal.invariant-loop-site
invariant-loop-site l = Gains l.initial.effects.items l.effects.items (FromBelow (AtFresh l.scene.system.now l.scene.effects.now) l.site)
