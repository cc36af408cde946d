use Rattle.std.proofs.Common.{take, ◌≡◌}
use Rattle.worklists.specs.Growth.{FromOne}
use Rattle.mod_ref.specs.Gains.{Gains}
use Rattle.input_tables.specs.Effects.{AtTouch}
use Rattle.input_tables.proofs.touches.add_each.Given as goal

abbrev pub invariant-loop-touch : goal.invariant-loop-touch
invariant-loop-touch l = Gains l.initial.effects.items l.effects.items (FromOne (AtTouch l.scene.system.now l.scene.effects.now l.write) (take l.touch-index l.touches))
