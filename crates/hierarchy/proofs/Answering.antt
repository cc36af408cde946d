-- What look-ups answer, from what was found by number.
use Rattle.std.proofs.Common.{◌≡◌, ℕ, ◌<◌, ◌↔◌, inl, inr, arith, List, [], map, length, refl, sym, ap, subst, ◌∙◌, Option, Some, None}
use Rattle.std.specs.Prelude.{slice_get, All}
use Rattle.std.specs.Option.{option_map}
use Rattle.std.proofs.lemmas.Option.{slice_get-map, slice_get_cases, slice_get_within, get_or_from_slice_get}
use Rattle.std.proofs.lemmas.List.Elements.{All-get_or}
use Rattle.slicer_ids.specs.declared.ids.ClassId.{ClassId}
use Rattle.class_form.specs.Pools.{MemberKey}
use Rattle.class_form.specs.Classes.{Declared, IsClass, IsNamed, IsOutside, IsAbstract}
use Rattle.class_form.specs.Numbers.{IsNamedClass}
use Rattle.class_form.specs.Resolution.{FieldVisits, outside, beyond, of_none, FirstIn, nowhere, here, later, FindsField, FindsMethod, Selects, IsAbstractMethod, DeclaresInstance}
use Rattle.class_form.specs.declared.class_file.ClassFile.{ClassFile}
use Rattle.hierarchy.specs.declared.look_up.Tree.{Tree}
use Rattle.hierarchy.specs.declared.look_up.Wanted.TheVariants.{Instance}
use Rattle.hierarchy.specs.declared.members.Kind.TheVariants.{Field, Method}
use Rattle.hierarchy.specs.declared.tree.Select.TheVariants.{Folder, Abstract, Outside}
use Rattle.hierarchy.specs.Finds.{FindsNumber, IsAbstractAt, Upwards, FieldFrom, MethodFrom}
use Rattle.hierarchy.specs.Places.{declared_at}
use Rattle.hierarchy.specs.Selections.{member_key, IsFieldNumber, IsMethodNumber, IsFoundField, IsFoundMethod, IsSelection}
use Rattle.hierarchy.specs.Trees.{IsTree, Fits}
use Rattle.hierarchy.proofs.Chains.{chain_from}
use Rattle.hierarchy.proofs.Resolving.{flags_hold}

first_fits : (F : Declared → Type 0) {cs : List ℕ} {d : Declared} → FirstIn F cs (Some d) → F d
first_fits F (here e f) = f
first_fits F (later never h) = first_fits F h

pub outside_field : (classes : List ClassFile) (class name descriptor : List ℕ) → IsOutside classes class → IsFoundField classes (member_key class name descriptor) None
outside_field classes class name descriptor o = ([], outside o, nowhere)

pub outside_method : (classes : List ClassFile) (class name descriptor : List ℕ) → IsOutside classes class → IsFoundMethod classes (member_key class name descriptor) None
outside_method classes class name descriptor o = ([], ([], [], beyond o, of_none, refl), nowhere)

module _ (tree : Tree) (t : IsTree tree) (name descriptor : List ℕ) where
  pub field_found : (class : List ℕ) (c n : ℕ) → IsNamed tree.classes.items class c → FindsNumber (FieldFrom tree.classes.items name descriptor c) tree.fields.places.items (Some n)
      → IsFoundField tree.classes.items (member_key class name descriptor) (Some (record { 0 = n }))
  field_found class c n named (p, at, f) =
      (declared_at p, f class named, (map declared_at tree.fields.places.items, t.fields_are.numbered, slice_get-map declared_at tree.fields.places.items n ∙ ap (option_map declared_at) at))

  method_number : (n : ℕ) (p : ClassId × ℕ) → slice_get tree.methods.places.items n ≡ Some p → IsMethodNumber tree.classes.items n (declared_at p)
  method_number n p at = (map declared_at tree.methods.places.items, t.methods_are.numbered, slice_get-map declared_at tree.methods.places.items n ∙ ap (option_map declared_at) at)

  pub method_found : (class : List ℕ) (c n : ℕ) → IsNamed tree.classes.items class c → FindsNumber (MethodFrom tree.classes.items name descriptor c) tree.methods.places.items (Some n)
      → IsFoundMethod tree.classes.items (member_key class name descriptor) (Some (record { 0 = n }))
  method_found class c n named (p, at, f) = (declared_at p, f class named, method_number n p at)

  class_of : (c : ℕ) → c < length tree.classes.items → (class : List ℕ) × IsNamed tree.classes.items class c
  class_of c l = elim (slice_get_cases tree.classes.items c).1 [
    | inl r ↦ let n = (subst IsNamedClass r.3 (All-get_or IsNamedClass tree.classes.items c r.0 l t.ordered.named)).named in (n.0, (r.0, r.2, n.1))
    | inr past ↦ absurd (omega (arith, past.0))
  ]

  selects : (class : List ℕ) (c : ℕ) (found : Option Declared) → IsNamed tree.classes.items class c → Upwards Instance tree.classes.items name descriptor c found
      → Selects tree.classes.items class (member_key class name descriptor) found
  selects class c found named u = (u.0, chain_from tree.classes.items u.1 (Some class) named, u.2)

  pub selects_outside : (c : ℕ) → c < length tree.classes.items → Upwards Instance tree.classes.items name descriptor c None → IsSelection tree.classes.items c name descriptor Outside
  selects_outside c l u = let k = class_of c l in (k.0, k.1, selects k.0 c None k.1 u)

  -- the flags say whether the method is abstract
  pub selects_abstract : (c n : ℕ) → c < length tree.classes.items → FindsNumber (Upwards Instance tree.classes.items name descriptor c) tree.methods.places.items (Some n)
      → IsAbstractAt tree.classes.items tree.methods.places.items n → IsSelection tree.classes.items c name descriptor Abstract
  selects_abstract c n l (p, at, u) a =
      let k = class_of c l in
      let f = first_fits (Fits Instance tree.classes.items name descriptor) u.2 in
      let flags = flags_hold IsAbstract tree.classes.items tree.methods.places.items n f.1.flags p a.0 a.1 at (f.0, f.1, f.2, f.3.0, refl) a.2 a.3 a.4 in
      (k.0, declared_at p, k.1, selects k.0 c (Some (declared_at p)) k.1 u, (f.1, name, descriptor, (f.0, f.2, f.3), flags))

  pub selects_folder : (c n : ℕ) → c < length tree.classes.items → FindsNumber (Upwards Instance tree.classes.items name descriptor c) tree.methods.places.items (Some n)
      → (IsAbstractAt tree.classes.items tree.methods.places.items n → ⊥) → IsSelection tree.classes.items c name descriptor (Folder (record { 0 = n }))
  selects_folder c n l (p, at, u) never =
      let k = class_of c l in
      (k.0, declared_at p, k.1, selects k.0 c (Some (declared_at p)) k.1 u, (λ a. never (p, a.0.flags, at, (a.3.0, a.0, a.3.1, a.3.2.0, refl), a.4)), method_number n p at)
