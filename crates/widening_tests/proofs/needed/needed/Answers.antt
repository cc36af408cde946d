use Rattle.widening_tests.proofs.needed.needed.Goals as goal

pub walk_on-requires-clause-walking : goal.walk_on-requires-clause-walking
walk_on-requires-clause-walking g c = c.start.ensures.walking c.args.f.now c.args.mode c.in_ok-walk.ensures
