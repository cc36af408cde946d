use Rattle.constraint_rules.proofs.Growths.{one_more}
use Rattle.constraint_rules.proofs.forms.push.Goals as goal

pub returns-in-Ok : goal.returns-in-Ok
returns-in-Ok c = one_more c.args.rules.now.items c.push.new.self.items c.args.rule c.in-Ok.ensures.items
