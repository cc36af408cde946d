use Rattle.sessions.proofs.Listing.{counted}
use Rattle.sessions.proofs.widened.begin.Goals as goal

pub new-requires-clause-seeds : goal.new-requires-clause-seeds
new-requires-clause-seeds g c = λ n h. let b = (c.requires.seeds.1 n).0 h in counted c.args.f.now n b.0 b.2
