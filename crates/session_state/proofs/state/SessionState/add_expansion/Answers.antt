use Rattle.session_state.proofs.Telling.{expanded_one}
use Rattle.session_state.proofs.state.SessionState.add_expansion.Goals as goal

pub returns-clause-answer : goal.returns-clause-answer
returns-clause-answer c = λ f p a n. expanded_one f c.args.self.now _ _ c.self.view_is p c.args.s a _ n c.in_ok-add.ensures.gained
