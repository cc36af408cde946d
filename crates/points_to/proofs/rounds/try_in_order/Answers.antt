use Rattle.std.proofs.lemmas.Result.{on_ok_weaker}
use Rattle.points_to.proofs.Moving.{sound_by_calls}
use Rattle.points_to.proofs.rounds.try_in_order.Goals as goal

pub returns-clause-sound : goal.returns-clause-sound
returns-clause-sound c = on_ok_weaker c.call_each.result (λ m. λ t. sound_by_calls c.args.system.now c.constrain_in_order.new.found c.call_each.new.found m (c.in_ok-constrain_in_order.ensures.sound t)) c.call_each.ensures.moved
