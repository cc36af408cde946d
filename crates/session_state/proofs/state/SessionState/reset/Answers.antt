use Rattle.session_state.proofs.Telling.{nothing_told}
use Rattle.session_state.proofs.state.SessionState.reset.Goals as goal

pub returns : goal.returns
returns c = λ f. nothing_told f c.args.self.now _ _ c.clear.ensures.items c.clear-2.ensures.items
