use Rattle.std.proofs.lemmas.Result.{on_ok_weaker}
use Rattle.constraint_rules.proofs.FormParts.{enter_grown}
use Rattle.constraint_rules.proofs.forms.push_enter.Goals as goal

pub returns : goal.returns
returns c = on_ok_weaker c.push.result (λ g. enter_grown c.args.target c.args.rules.now.items c.push.new.rules.items g) c.push.ensures
