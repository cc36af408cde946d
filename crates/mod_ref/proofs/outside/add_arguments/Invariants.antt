use Rattle.std.proofs.Common.{take, ◌≡◌}
use Rattle.worklists.specs.Growth.{FromOne}
use Rattle.mod_ref.specs.Gains.{Gains}
use Rattle.mod_ref.specs.Direct.{AtArgument}
use Rattle.mod_ref.proofs.outside.add_arguments.Given as goal

abbrev pub invariant-loop-argument : goal.invariant-loop-argument
invariant-loop-argument l = Gains l.initial.effects.items.items l.effects.items.items (FromOne (AtArgument l.system l.elements l.call) (take l.argument-index l.arguments))
