use Rattle.sessions.proofs.Widening.{statements_listed}
use Rattle.sessions.proofs.widened.Widened.statements.Goals as goal

pub returns : goal.returns
returns c = statements_listed c.args.f.now c.args.self.now c.requires c.in_ok-statements.statements.items c.in_ok-statements.ensures
