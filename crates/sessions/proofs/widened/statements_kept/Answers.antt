use Rattle.std.proofs.Common.{subst}
use Rattle.sessions.specs.Widened.{IsKeptOf, AreAllIn}
use Rattle.sessions.proofs.Widening.{statements_in_kept}
use Rattle.sessions.proofs.widened.statements_kept.Goals as goal

pub returns : goal.returns
returns c =
    let f = c.args.f.now in
    let st = c.args.state.now in
    let kept = subst (IsKeptOf f st) c.in-Some.is c.requires.kept in
    let all = subst (AreAllIn st.expanded) c.in-Some.is c.requires.all in
    statements_in_kept f st c.in-Some.widened c.in_ok-statements.statements.items kept all c.in_ok-statements.ensures
