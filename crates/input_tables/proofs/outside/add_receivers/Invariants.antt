use Rattle.std.proofs.Common.{take, ◌≡◌}
use Rattle.worklists.specs.Growth.{FromOne}
use Rattle.mod_ref.specs.Gains.{Gains}
use Rattle.input_tables.specs.Effects.{AtReceiver}
use Rattle.input_tables.proofs.outside.add_receivers.Given as goal

abbrev pub invariant-loop-receiver : goal.invariant-loop-receiver
invariant-loop-receiver l = Gains l.initial.effects.items l.effects.items (FromOne (AtReceiver l.scene.system.now l.scene.effects.now l.elements l.at) (take l.receiver-index l.receivers))
