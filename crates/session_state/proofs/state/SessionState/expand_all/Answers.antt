use Rattle.session_state.proofs.Telling.{expanded_all}
use Rattle.session_state.proofs.state.SessionState.expand_all.Goals as goal

pub returns-clause-answer : goal.returns-clause-answer
returns-clause-answer c = expanded_all c.args.f.now c.args.self.now _ _ c.self.view_is c.in_ok-self-inside.field-0.items c.in_ok-self-inside.ensures
