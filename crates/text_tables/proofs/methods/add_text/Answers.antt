use Rattle.std.proofs.lemmas.Result.{on_ok_weaker}
use Rattle.text_tables.proofs.methods.add_text.Goals as goal

pub returns : goal.returns
returns c = on_ok_weaker c.push.result (λ e. (c.in_ok-text.text, c.in_ok-text.ensures, e)) c.push.ensures
