use Rattle.std.proofs.Common.{length, refl, sym, subst, arith}
use Rattle.std.proofs.lemmas.Option.{slice_get_read}
use Rattle.class_form.specs.Classes.{IsPrivate, IsStatic}
use Rattle.hierarchy.specs.declared.members.Kind.TheVariants.{Method}
use Rattle.hierarchy.specs.Finds.{HasFlags}
use Rattle.hierarchy.specs.Places.{IsPlace}
use Rattle.hierarchy.proofs.Resolving.{method_place, flags_hold}
use Rattle.hierarchy.proofs.look_up.Tree.is_instance.Goals as goal

pub flags_at-requires : goal.flags_at-requires
flags_at-requires c =
    let p = c.index-place.result.now in
    subst (λ classes. IsPlace Method classes p) (sym c.as_slice.ensures.value) (method_place c.args.self.now c.args.number p c.requires.tree c.requires.number c.index-place.ensures)

pub returns : goal.returns
returns c =
    let p = c.index-place.result.now in
    let places = c.args.self.now.methods.places.items in
    let at = slice_get_read places (length places) c.args.number p refl c.requires.number c.index-place.ensures in
    let has = subst (λ classes. HasFlags classes p c.flags_at.result) c.as_slice.ensures.value c.flags_at.ensures in (
      λ h. let f = c.is_selectable.ensures.0 h in (p, c.flags_at.result, at, has, f.0, f.1),
      λ h. c.is_selectable.ensures.1 (flags_hold (λ f. (IsPrivate f → ⊥) × (IsStatic f → ⊥)) c.args.self.now.classes.items places c.args.number c.flags_at.result p h.0 h.1 at has h.2 h.3 (h.4, h.5)),
    )
