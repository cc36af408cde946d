use Rattle.session_state.proofs.Telling.{seeded_line}
use Rattle.session_state.proofs.state.SessionState.add_seeds.Goals as goal

pub returns-clause-answer : goal.returns-clause-answer
returns-clause-answer c = λ f name line k n l some.
    seeded_line f c.args.self.now _ _ c.self.view_is name line k c.args.statements.now _ c.in_ok-is_new.is_new _ n l some c.in_ok-is_new.ensures.gained c.told.ensures
