use Rattle.std.proofs.Common.{refl}
use Rattle.sessions.proofs.desk.Desk.open.Goals as goal

pub returns-clause-fresh : goal.returns-clause-fresh
returns-clause-fresh g c = record { outcome = refl; session = c.in-Ok-open.ensures.session; state = c.in-Ok-open.ensures.start.0; widened = c.in-Ok-open.ensures.none; reader = c.in-Ok.ensures }
