use Rattle.std.proofs.Common.{subst}
use Rattle.class_form.specs.Classes.{AreInOrder}
use Rattle.class_form.specs.Folders.{AreAcyclic}
use Rattle.hierarchy.proofs.tree.Hierarchy.classes.Goals as goal

pub returns-clause-order : goal.returns-clause-order
returns-clause-order c = subst AreInOrder c.self.view_is c.self.invariant.ordered.order

pub returns-clause-acyclic : goal.returns-clause-acyclic
returns-clause-acyclic c = subst AreAcyclic c.self.view_is c.self.invariant.acyclic
