use Rattle.std.proofs.Common.{map, sym, subst, ap}
use Rattle.class_form.specs.Numbers.{AreFields}
use Rattle.hierarchy.specs.Places.{declared_at}
use Rattle.hierarchy.proofs.tree.Hierarchy.field_places.Goals as goal

pub returns : goal.returns
returns c =
    subst (λ classes. AreFields classes (map declared_at c.as_slice.result.now)) c.self.view_is
    (subst (λ places. AreFields c.self.inside.tree.classes.items (map declared_at places)) (sym c.as_slice.ensures.value) c.self.invariant.fields_are.numbered)
