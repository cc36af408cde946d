use Rattle.std.proofs.Common.{take, ◌≡◌}
use Rattle.worklists.specs.Growth.{FromOne}
use Rattle.mod_ref.specs.Gains.{Gains}
use Rattle.input_tables.specs.Effects.{AtCell}
use Rattle.input_tables.proofs.touches.add_cells.Given as goal

abbrev pub invariant-loop-site : goal.invariant-loop-site
invariant-loop-site l = Gains l.initial.effects.items l.effects.items (FromOne (AtCell l.scene.effects.now l.field l.at) (take l.site-index l.sites))
