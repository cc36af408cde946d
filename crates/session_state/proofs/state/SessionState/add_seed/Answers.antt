use Rattle.session_state.proofs.Telling.{seeded}
use Rattle.session_state.proofs.state.SessionState.add_seed.Goals as goal

pub returns-clause-answer : goal.returns-clause-answer
returns-clause-answer c = λ f p n. seeded f c.args.self.now _ _ c.self.view_is p c.args.s _ c.in_ok-is_new.is_new _ n c.in_ok-is_new.ensures.gained c.told.ensures
