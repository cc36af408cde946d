use Rattle.std.proofs.Common.{subst, ◌∙◌}
use Rattle.class_form.specs.Classes.{IsOutside}
use Rattle.hierarchy.proofs.tree.Hierarchy.find_class.Goals as goal

pub returns-in-None : goal.returns-in-None
returns-in-None c = subst (λ classes. IsOutside classes c.args.name.now) (c.as_slice.ensures.value ∙ c.self.view_is) c.in-None.ensures
