use Rattle.std.proofs.Common.{take, ◌≡◌}
use Rattle.worklists.specs.Growth.{FromOne}
use Rattle.mod_ref.specs.Gains.{Gains}
use Rattle.mod_ref.specs.Direct.{AtReceiver}
use Rattle.mod_ref.proofs.outside.add_receivers.Given as goal

abbrev pub invariant-loop-receiver : goal.invariant-loop-receiver
invariant-loop-receiver l = Gains l.initial.effects.items.items l.effects.items.items (FromOne (AtReceiver l.system l.elements l.method) (take l.receiver-index l.receivers))
