use Rattle.std.proofs.Common.{take, ◌≡◌}
use Rattle.worklists.specs.Growth.{FromOne}
use Rattle.mod_ref.specs.Gains.{Gains}
use Rattle.input_tables.specs.Effects.{AtVariable}
use Rattle.input_tables.proofs.touches.add_variables.Given as goal

abbrev pub invariant-loop-v : goal.invariant-loop-v
invariant-loop-v l = Gains l.initial.effects.items l.effects.items (FromOne (AtVariable l.scene.system.now l.scene.effects.now l.field l.at) (take l.v-index l.variables))
