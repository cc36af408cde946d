use Rattle.points_to.proofs.rounds.hurry.Goals as goal

pub loop-preserved : goal.loop-preserved
loop-preserved c = record { shape = c.in_ok-try_in_order.ensures.shape; sound = c.in_ok-try_in_order.ensures.sound (c.in_ok-begin.ensures.sound c.args.system.now c.loop.invariant.sound) }

pub returns-then-not-found-clause-sound : goal.returns-then-not-found-clause-sound
returns-then-not-found-clause-sound c = c.in_ok-try_in_order.ensures.sound (c.in_ok-begin.ensures.sound c.args.system.now c.loop.invariant.sound)
