use Rattle.std.proofs.Common.{◌≡◌}
use Rattle.input_tables.specs.Effects.{AtVariable}
use Rattle.mod_ref.proofs.Gaining.{gains_first, gains_more, gains_all}
use Rattle.input_tables.proofs.touches.add_variables.Goals as goal

pub loop-v-init : goal.loop-v-init
loop-v-init c = gains_first (AtVariable c.args.scene.now.system.now c.args.scene.now.effects.now c.args.field c.args.at) c.args.variables.now c.args.effects.now.items

pub loop-v-preserved : goal.loop-v-preserved
loop-v-preserved c = gains_more (AtVariable c.args.scene.now.system.now c.args.scene.now.effects.now c.args.field c.args.at) c.args.variables.now c.loop-v.v-index _ c.args.effects.now.items c.loop-v.effects.items c.add_variable.new.effects.items c.loop-v-test.true c.loop-v.invariant c.in_ok-add_variable.ensures

pub returns : goal.returns
returns c = gains_all (AtVariable c.args.scene.now.system.now c.args.scene.now.effects.now c.args.field c.args.at) c.args.variables.now c.loop-v.v-index c.args.effects.now.items c.loop-v.effects.items c.loop-v-test.false c.loop-v.invariant
