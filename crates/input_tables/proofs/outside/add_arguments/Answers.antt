use Rattle.std.proofs.Common.{◌≡◌}
use Rattle.input_tables.specs.Effects.{AtArgument}
use Rattle.mod_ref.proofs.Gaining.{gains_first, gains_more, gains_all}
use Rattle.input_tables.proofs.outside.add_arguments.Goals as goal

pub loop-argument-init : goal.loop-argument-init
loop-argument-init c = gains_first (AtArgument c.args.scene.now.system.now c.args.scene.now.effects.now c.args.elements c.args.call.now.number c.args.call.now.site.now c.args.call.now.rule.now c.args.call.now.place) c.args.arguments.now c.args.effects.now.items

pub loop-argument-preserved : goal.loop-argument-preserved
loop-argument-preserved c = gains_more (AtArgument c.args.scene.now.system.now c.args.scene.now.effects.now c.args.elements c.args.call.now.number c.args.call.now.site.now c.args.call.now.rule.now c.args.call.now.place) c.args.arguments.now c.loop-argument.argument-index _ c.args.effects.now.items c.loop-argument.effects.items c.add_argument.new.effects.items c.loop-argument-test.true c.loop-argument.invariant c.in_ok-add_argument.ensures

pub returns : goal.returns
returns c = gains_all (AtArgument c.args.scene.now.system.now c.args.scene.now.effects.now c.args.elements c.args.call.now.number c.args.call.now.site.now c.args.call.now.rule.now c.args.call.now.place) c.args.arguments.now c.loop-argument.argument-index c.args.effects.now.items c.loop-argument.effects.items c.loop-argument-test.false c.loop-argument.invariant
