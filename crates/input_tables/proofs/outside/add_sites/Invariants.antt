use Rattle.std.proofs.Common.{take, ◌≡◌}
use Rattle.worklists.specs.Growth.{FromOne}
use Rattle.mod_ref.specs.Gains.{Gains}
use Rattle.input_tables.specs.Effects.{AtSite}
use Rattle.input_tables.proofs.outside.add_sites.Given as goal

abbrev pub invariant-loop-site : goal.invariant-loop-site
invariant-loop-site l = Gains l.initial.effects.items l.effects.items (FromOne (AtSite l.scene.system.now l.scene.effects.now l.elements l.at) (take l.site-index l.sites))
