use Rattle.session_form.specs.Answers.{refuses_seed}
use Rattle.session_state.proofs.state.SessionState.seed.Goals as goal

pub returns-in-Err-clause-answer : goal.returns-in-Err-clause-answer
returns-in-Err-clause-answer c = refuses_seed c.in-Err.ensures
