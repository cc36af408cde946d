use Rattle.std.proofs.Common.{List, All, IfOk, sym, subst}
use Rattle.class_form.specs.Classes.{AreInOrder}
use Rattle.class_form.specs.declared.class_file.ClassFile.{ClassFile}
use Rattle.class_loader.specs.Sound.{IsSoundClass, AreBodiesOf}
use Rattle.class_loader.proofs.listing.bodies.Goals as goal

pub with_places-requires-clause-ordered : goal.with_places-requires-clause-ordered
with_places-requires-clause-ordered c = subst AreInOrder (sym c.classes.ensures.classes) c.classes.ensures.order

pub with_places-requires-clause-sound : goal.with_places-requires-clause-sound
with_places-requires-clause-sound c = subst (All IsSoundClass) (sym c.classes.ensures.classes) c.requires

pub returns : goal.returns
returns c = subst (λ (ks : List ClassFile). IfOk c.with_places.result (λ v. AreBodiesOf ks v.items)) c.classes.ensures.classes c.with_places.ensures
