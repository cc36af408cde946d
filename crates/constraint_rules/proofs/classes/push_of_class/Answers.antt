use Rattle.std.proofs.lemmas.Result.{on_ok_weaker}
use Rattle.constraint_rules.proofs.Initials.{class_entered}
use Rattle.constraint_rules.proofs.classes.push_of_class.Goals as goal

pub returns : goal.returns
returns c = on_ok_weaker c.push_all.result (λ g. class_entered c.args.initializers.now c.initializers_of.result.now c.args.class c.args.rules.now.items c.push_all.new.rules.items c.initializers_of.ensures g) c.push_all.ensures
