use Rattle.hierarchy.proofs.Rows.{named_leads}
use Rattle.hierarchy.proofs.parents.class_named.Goals as goal

pub returns-in-Some : goal.returns-in-Some
returns-in-Some c = named_leads c.args.classes.now c.args.class.now c.args.index _ _ c.in-Some.ensures c.find_class.ensures
