use Rattle.std.proofs.Common.{◌≡◌}
use Rattle.input_tables.specs.Effects.{AtReceiver}
use Rattle.mod_ref.proofs.Gaining.{gains_first, gains_more, gains_all}
use Rattle.input_tables.proofs.outside.add_receivers.Goals as goal

pub loop-receiver-init : goal.loop-receiver-init
loop-receiver-init c = gains_first (AtReceiver c.args.scene.now.system.now c.args.scene.now.effects.now c.args.elements c.args.at) c.args.receivers.now c.args.effects.now.items

pub loop-receiver-preserved : goal.loop-receiver-preserved
loop-receiver-preserved c = gains_more (AtReceiver c.args.scene.now.system.now c.args.scene.now.effects.now c.args.elements c.args.at) c.args.receivers.now c.loop-receiver.receiver-index _ c.args.effects.now.items c.loop-receiver.effects.items c.add_receiver.new.effects.items c.loop-receiver-test.true c.loop-receiver.invariant c.in_ok-add_receiver.ensures

pub returns : goal.returns
returns c = gains_all (AtReceiver c.args.scene.now.system.now c.args.scene.now.effects.now c.args.elements c.args.at) c.args.receivers.now c.loop-receiver.receiver-index c.args.effects.now.items c.loop-receiver.effects.items c.loop-receiver-test.false c.loop-receiver.invariant
