use Rattle.worklists.proofs.Growing.{FromBelow}
use Rattle.mod_ref.specs.Gains.{Gains}
use Rattle.mod_ref.specs.Direct.{AtIndex}
use Rattle.mod_ref.proofs.fresh.add_sites.Given as goal

abbrev pub invariant-loop-site : goal.invariant-loop-site
invariant-loop-site l = Gains l.initial.effects.items.items l.effects.items.items (FromBelow (AtIndex l.system l.places) l.site)
