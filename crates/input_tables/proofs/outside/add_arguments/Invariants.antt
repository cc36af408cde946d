use Rattle.std.proofs.Common.{take, ◌≡◌}
use Rattle.worklists.specs.Growth.{FromOne}
use Rattle.mod_ref.specs.Gains.{Gains}
use Rattle.input_tables.specs.Effects.{AtArgument}
use Rattle.input_tables.proofs.outside.add_arguments.Given as goal

abbrev pub invariant-loop-argument : goal.invariant-loop-argument
invariant-loop-argument l = Gains l.initial.effects.items l.effects.items (FromOne (AtArgument l.scene.system.now l.scene.effects.now l.elements l.call.number l.call.site.now l.call.rule.now l.call.place) (take l.argument-index l.arguments))
