use Rattle.std.proofs.Common.{subst}
use Rattle.class_form.specs.Folders.{AreAcyclic}
use Rattle.hierarchy.proofs.tree.with_order.Goals as goal

pub returns-in-Ok-clause-ok : goal.returns-in-Ok-clause-ok
returns-in-Ok-clause-ok c = (c.in-Ok.ensures.0, subst AreAcyclic c.in-Ok.ensures.0 c.in-Ok.ensures.1.acyclic)
