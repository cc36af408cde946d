-- Sites by what they are: arrays, and after them an object.
use Rattle.std.proofs.Common.{◌≡◌, ◌⊎◌, ◌<◌, ◌+◌, ℕ, suc, List, Option, Some, None, sym, ap, ◌∙◌, subst, inl, inr, refl, arith}
use Rattle.slicer_ids.specs.declared.ids.Statement.{Statement}
use Rattle.class_form.specs.declared.types.BaseType.{BaseType}
use Rattle.class_form.specs.declared.types.BaseType.TheVariants.{Class}
use Rattle.class_form.specs.declared.types.FieldType.{FieldType}
use Rattle.program_form.specs.Programs.{Program}
use Rattle.program_form.specs.Sites.{Made, HasType, IsArraySite, IsObjectOf}
use Rattle.site_tables.specs.declared.fresh.Fresh.{Fresh}
use Rattle.site_tables.specs.Making.{class_in, objects_of, count_of, AreMade}

-- the type of a site says where it stands: among the arrays, or at the object
abbrev pub Layer : ℕ → Option (List ℕ) → ℕ → FieldType → Type 0
Layer dims class k u = ((k < dims) × (0 < u.dims)) ⊎ ((k ≡ dims) × (u.dims ≡ 0) × ((name : List ℕ) × (u.base ≡ Class name) × (class ≡ Some name)))

one_name : (a b : List ℕ) → (let x : BaseType = Class a in x) ≡ Class b → a ≡ b
one_name a b e = cc e

object_count : (o : Option (List ℕ)) (name : List ℕ) → o ≡ Some name → objects_of o ≡ 1
object_count None name e = absurd (cc e)
object_count (Some x) name e = refl

none_count : objects_of None ≡ 0
none_count = refl

one_count : (name : List ℕ) → objects_of (Some name) ≡ 1
one_count name = refl

pub no_more : (n : ℕ) → n + objects_of None ≡ n
no_more n = omega (arith, none_count)

pub one_more : (n : ℕ) (name : List ℕ) → n + objects_of (Some name) ≡ suc n
one_more n name = omega (arith, one_count name)

module _ (p : Program) (t : Statement) (x : Fresh) where
  pub made_of : ((k : ℕ) (u : FieldType) → HasType p (Made t k) u → Layer x.dims (class_in x) k u) → ((k : ℕ) → k < count_of x → (u : FieldType) × HasType p (Made t k) u) → AreMade p t x
  made_of layer has = record {
    each = λ k. (λ lt. has k lt, λ typed. within k typed.0 (layer k typed.0 typed.1));
    arrays = λ k. (λ lt. let typed = has k (omega (arith, lt)) in (typed.0, typed.1, array k typed.0 lt (layer k typed.0 typed.1)), λ site. is_array k site.0 site.2 (layer k site.0 site.1));
    objects = λ k name. (
      λ h.
          let typed = has k (omega (arith, h.0, object_count (class_in x) name h.1)) in
          let o = object k name typed.0 h.0 h.1 (layer k typed.0 typed.1) in
          (typed.0, typed.1, o.0, o.1),
      λ site. is_object k name site.0 site.2 site.3 (layer k site.0 site.1),
    );
  }
    where
      within : (k : ℕ) (u : FieldType) → Layer x.dims (class_in x) k u → k < count_of x
      within k u (inl l) = omega (arith, l.0)
      within k u (inr (e, none, (name, base, class))) = omega (arith, e, object_count (class_in x) name class)

      array : (k : ℕ) (u : FieldType) → k < x.dims → Layer x.dims (class_in x) k u → 0 < u.dims
      array k u lt (inl l) = l.1
      array k u lt (inr (e, none, object)) = absurd (omega (arith, e, lt))

      is_array : (k : ℕ) (u : FieldType) → 0 < u.dims → Layer x.dims (class_in x) k u → k < x.dims
      is_array k u lt (inl l) = l.0
      is_array k u lt (inr (e, none, object)) = absurd (omega (arith, none, lt))

      object : (k : ℕ) (name : List ℕ) (u : FieldType) → k ≡ x.dims → class_in x ≡ Some name → Layer x.dims (class_in x) k u → (u.dims ≡ 0) × (u.base ≡ Class name)
      object k name u e class (inl l) = absurd (omega (arith, e, l.0))
      object k name u e class (inr (same, none, (other, base, is))) =
          let f : Some other ≡ Some name = sym is ∙ class in
          let g : other ≡ name = cc f in
          (none, base ∙ ap (λ n. Class n) g)

      is_object : (k : ℕ) (name : List ℕ) (u : FieldType) → u.dims ≡ 0 → u.base ≡ Class name → Layer x.dims (class_in x) k u → (k ≡ x.dims) × (class_in x ≡ Some name)
      is_object k name u none base (inl l) = absurd (omega (arith, none, l.1))
      is_object k name u none base (inr (e, flat, (other, is, class))) = (e, class ∙ ap (λ n. Some n) (one_name other name (sym is ∙ base)))
