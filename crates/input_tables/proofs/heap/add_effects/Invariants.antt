use Rattle.std.proofs.Common.{take, ◌≡◌}
use Rattle.worklists.specs.Growth.{FromOne}
use Rattle.mod_ref.specs.Gains.{Gains}
use Rattle.input_tables.specs.Uses.{IsEffectUse}
use Rattle.input_tables.proofs.heap.add_effects.Given as goal

abbrev pub invariant-loop-effect : goal.invariant-loop-effect
invariant-loop-effect l = Gains l.initial.uses.items l.uses.items (FromOne (IsEffectUse l.points l.first l.row l.answered) (take l.effect-index l.effects))
