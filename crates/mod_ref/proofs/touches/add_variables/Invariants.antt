use Rattle.std.proofs.Common.{take, ◌≡◌}
use Rattle.worklists.specs.Growth.{FromOne}
use Rattle.mod_ref.specs.Gains.{Gains}
use Rattle.mod_ref.specs.Direct.{AtVariable}
use Rattle.mod_ref.proofs.touches.add_variables.Given as goal

abbrev pub invariant-loop-v : goal.invariant-loop-v
invariant-loop-v l = Gains l.initial.effects.items.items l.effects.items.items (FromOne (AtVariable l.system l.field l.method) (take l.v-index l.variables))
