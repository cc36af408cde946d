use Rattle.std.proofs.Common.{◌≡◌}
use Rattle.mod_ref.specs.Direct.{AtVariable}
use Rattle.mod_ref.proofs.Gaining.{gains_first, gains_more, gains_all}
use Rattle.mod_ref.proofs.touches.add_variables.Goals as goal

pub loop-v-init : goal.loop-v-init
loop-v-init c = gains_first (AtVariable c.args.system.now c.args.field c.args.method) c.args.variables.now c.args.effects.now.items.items

pub loop-v-preserved : goal.loop-v-preserved
loop-v-preserved c = gains_more (AtVariable c.args.system.now c.args.field c.args.method) c.args.variables.now c.loop-v.v-index _ c.args.effects.now.items.items c.loop-v.effects.items.items c.add_variable.new.effects.items.items c.loop-v-test.true c.loop-v.invariant c.in_ok-add_variable.ensures

pub returns : goal.returns
returns c = gains_all (AtVariable c.args.system.now c.args.field c.args.method) c.args.variables.now c.loop-v.v-index c.args.effects.now.items.items c.loop-v.effects.items.items c.loop-v-test.false c.loop-v.invariant
