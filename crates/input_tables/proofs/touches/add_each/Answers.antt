use Rattle.std.proofs.Common.{◌≡◌}
use Rattle.input_tables.specs.Effects.{AtTouch}
use Rattle.mod_ref.proofs.Gaining.{gains_first, gains_each, gains_all}
use Rattle.input_tables.proofs.touches.add_each.Goals as goal

pub loop-touch-init : goal.loop-touch-init
loop-touch-init c = gains_first (AtTouch c.args.scene.now.system.now c.args.scene.now.effects.now c.args.write) c.args.touches.now c.args.effects.now.items

pub loop-touch-preserved : goal.loop-touch-preserved
loop-touch-preserved c = gains_each (AtTouch c.args.scene.now.system.now c.args.scene.now.effects.now c.args.write) c.args.touches.now c.loop-touch.touch-index c.touch-item.result c.args.effects.now.items c.loop-touch.effects.items c.add_touch.new.effects.items c.loop-touch-test.true c.touch-item.is c.loop-touch.invariant c.in_ok-add_touch.ensures

pub returns : goal.returns
returns c = gains_all (AtTouch c.args.scene.now.system.now c.args.scene.now.effects.now c.args.write) c.args.touches.now c.loop-touch.touch-index c.args.effects.now.items c.loop-touch.effects.items c.loop-touch-test.false c.loop-touch.invariant
