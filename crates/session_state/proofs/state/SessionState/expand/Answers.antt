use Rattle.session_form.specs.Answers.{refuses_expansion}
use Rattle.session_state.proofs.state.SessionState.expand.Goals as goal

pub returns-in-Ok-clause-answer : goal.returns-in-Ok-clause-answer
returns-in-Ok-clause-answer c = c.add_expansion.ensures.answer c.args.f.now c.args.place.now c.in-Ok.named.access.now c.in-Ok.ensures

pub returns-in-Err-clause-answer : goal.returns-in-Err-clause-answer
returns-in-Err-clause-answer c = refuses_expansion c.in-Err.ensures
