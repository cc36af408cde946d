use Rattle.points_to.proofs.rounds.constrain_in_order.Goals as goal

pub loop-number-preserved : goal.loop-number-preserved
loop-number-preserved c = record { shape = c.in_ok-constrain_at.ensures.shape; sound = λ t. c.in_ok-constrain_at.ensures.sound (c.loop-number.invariant.sound t) }
