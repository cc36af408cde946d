use Rattle.std.proofs.Common.{take, ◌≡◌}
use Rattle.worklists.specs.Growth.{FromOne}
use Rattle.mod_ref.specs.Gains.{Gains}
use Rattle.mod_ref.specs.Direct.{AtTouch}
use Rattle.mod_ref.proofs.touches.add_each.Given as goal

abbrev pub invariant-loop-touch : goal.invariant-loop-touch
invariant-loop-touch l = Gains l.initial.effects.items.items l.effects.items.items (FromOne (AtTouch l.system l.write) (take l.touch-index l.touches))
