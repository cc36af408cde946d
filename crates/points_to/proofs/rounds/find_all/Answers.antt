use Rattle.points_to.proofs.Moving.{still_sound, exact}
use Rattle.points_to.proofs.rounds.find_all.Goals as goal

pub loop-preserved : goal.loop-preserved
loop-preserved c = record { shape = c.in_ok-try_all.ensures.shape; sound = still_sound c.args.system.now c.begin.new.found c.try_all.new.found (c.in_ok-begin.ensures.sound c.args.system.now c.in_ok-hurry.ensures.sound) c.in_ok-try_all.ensures.moved }

pub returns-then-not-found-clause-exact : goal.returns-then-not-found-clause-exact
returns-then-not-found-clause-exact c = exact c.args.system.now c.begin.new.found c.try_all.new.found (c.in_ok-begin.ensures.sound c.args.system.now c.in_ok-hurry.ensures.sound) c.in_ok-try_all.ensures.moved c.if-found.true c.if-not-found.true
