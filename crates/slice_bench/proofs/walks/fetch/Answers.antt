use Rattle.slice_bench.proofs.walks.fetch.Goals as goal

pub walk_on-requires-clause-walking : goal.walk_on-requires-clause-walking
walk_on-requires-clause-walking g c = c.start.ensures.walking c.args.f.now c.args.mode c.requires.walk
