use Rattle.hierarchy.proofs.Rows.{more_passed, pushed_leads}
use Rattle.hierarchy.proofs.parents.push_named.Goals as goal

pub returns-in_default : goal.returns-in_default
returns-in_default c = λ indices l. more_passed c.args.classes.now c.args.class.now c.args.index c.in_default.ensures l

pub returns-in-Ok : goal.returns-in-Ok
returns-in-Ok c = λ indices l. pushed_leads c.args.classes.now c.args.class.now c.args.index _ _ _ c.in-Some.ensures c.in-Ok.ensures.items indices l
