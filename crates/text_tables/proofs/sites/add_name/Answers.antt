use Rattle.text_tables.proofs.sites.add_name.Goals as goal
use Rattle.std.proofs.lemmas.Result.{on_ok_weaker}

pub returns : goal.returns
returns c = on_ok_weaker c.push.result (λ e. (c.in_ok-name.name, c.in_ok-name.ensures, e)) c.push.ensures
