-- Names among classes in order.
use Rattle.std.proofs.Common.{◌≡◌, ◌≢◌, ℕ, ◌+◌, ◌-◌, ◌<◌, ◌≤◌, ◌⊎◌, inl, inr, List, [], length, get_or, sym, ap, ◌∙◌, subst, arith, Some}
use Rattle.std.specs.Prelude.{All, unwrap_or}
use Rattle.std.specs.Ordering.{nat_cmp, is_lt}
use Rattle.std.specs.Cmp.Lexicographic.{slice_cmp}
use Rattle.std.proofs.lemmas.Bool.{cases_lt, cases_order}
use Rattle.std.proofs.lemmas.Cmp.{nat_list_cmp_total}
use Rattle.std.proofs.lemmas.List.Sorted.{ranks_by, sorted_far}
use Rattle.std.proofs.lemmas.Option.{slice_get_within, get_or_from_slice_get, slice_get-get_or}
use Rattle.std.proofs.lemmas.List.Elements.{All-get_or}
use Rattle.slicer_ids.specs.Order.{BytesBefore}
use Rattle.class_form.specs.Classes.{class_name, IsNamed, AreInOrder}
use Rattle.class_form.specs.Numbers.{IsNamedClass}
use Rattle.class_form.specs.Folders.{StandsTwice, IsLeastName}
use Rattle.class_form.specs.declared.class_file.ClassFile.{ClassFile}
use Rattle.hierarchy.specs.Names.{name_bytes, IsByName}
use Rattle.hierarchy.proofs.Bytes.{not_before_itself, not_before, before_upto}

-- the first n names rise
pub record IsStrictBelow (classes : List ClassFile) (n : ℕ) : Type 0 where
  pub rises : (k : ℕ) (d : ClassFile) → k + 1 < n → BytesBefore (name_bytes (get_or classes k d)) (name_bytes (get_or classes (k + 1) d))

-- a later name is no earlier one
pub far : (classes : List ClassFile) → IsByName classes → (i j : ℕ) (d : ClassFile) → i ≤ j → j < length classes
    → (name_bytes (get_or classes i d) ≡ name_bytes (get_or classes j d)) ⊎ BytesBefore (name_bytes (get_or classes i d)) (name_bytes (get_or classes j d))
far classes s i j d l h =
    not_before (name_bytes (get_or classes i d)) (name_bytes (get_or classes j d))
    (sorted_far (λ x y. is_lt (slice_cmp nat_cmp (name_bytes x) (name_bytes y))) (ranks_by nat_list_cmp_total name_bytes) classes s i j d l h)

-- among the first n names, the first comes before the second
pub strictly : (classes : List ClassFile) (n : ℕ) → IsByName classes → IsStrictBelow classes n → n ≤ length classes → (i j : ℕ) (d : ClassFile) → i < j → j < n
    → BytesBefore (name_bytes (get_or classes i d)) (name_bytes (get_or classes j d))
strictly classes n s b h i j d l k =
    before_upto (name_bytes (get_or classes i d)) (name_bytes (get_or classes (i + 1) d)) (name_bytes (get_or classes j d))
    (b.rises i d (omega arith)) (far classes s (i + 1) j d (omega arith) (omega arith))

-- a class that is named, by its name
pub named_is : (k : ClassFile) (name : List ℕ) → class_name k ≡ Some name → name_bytes k ≡ name
named_is k name e = ap (λ o. unwrap_or o []) e

pub named_at : (classes : List ClassFile) → All IsNamedClass classes → (i : ℕ) (d : ClassFile) → i < length classes → class_name (get_or classes i d) ≡ Some (name_bytes (get_or classes i d))
named_at classes all i d l =
    let h = (All-get_or IsNamedClass classes i d l all).named in
    h.1 ∙ ap Some (sym (named_is (get_or classes i d) h.0 h.1))

pub in_order : (classes : List ClassFile) → All IsNamedClass classes → IsByName classes → (n : ℕ) → length classes ≤ n → IsStrictBelow classes n → AreInOrder classes
in_order classes all s n h b i j d l k = (
  name_bytes (get_or classes i d),
  name_bytes (get_or classes j d),
  named_at classes all i d (omega arith),
  named_at classes all j d k,
  strictly classes (length classes) s (record { rises = λ a e lt. b.rises a e (omega arith) }) (omega arith) i j d l k,
)

-- one name more
pub rises_more : (classes : List ClassFile) (i : ℕ) → IsByName classes → IsStrictBelow classes i → 1 ≤ i → i < length classes
    → ((d : ClassFile) → name_bytes (get_or classes (i - 1) d) ≢ name_bytes (get_or classes i d)) → IsStrictBelow classes (i + 1)
rises_more classes i s b one l ne = record {
  rises = λ k d lt. elim (cases_lt (k + 1) i) [
    | inl low ↦ b.rises k d low
    | inr high ↦
        let e : k ≡ i - 1 = omega arith in
        let f : k + 1 ≡ i = omega arith in
        elim (far classes s k (k + 1) d (omega arith) (omega arith)) [
          | inl same ↦ absurd (ne d (ap (λ j. name_bytes (get_or classes j d)) (sym e) ∙ same ∙ ap (λ j. name_bytes (get_or classes j d)) f))
          | inr before ↦ before
        ]
  ];
}

pub name_at : (classes : List ClassFile) (name : List ℕ) (a : ℕ) (d : ClassFile) → IsNamed classes name a → (name_bytes (get_or classes a d) ≡ name) × (a < length classes)
name_at classes name a d h =
    (ap name_bytes (get_or_from_slice_get classes a h.0 d h.1) ∙ named_is h.0 name h.2, slice_get_within classes a h.0 h.1)

-- a name that stands twice is none of the first ones
no_earlier : (classes : List ClassFile) (i : ℕ) (d : ClassFile) (other : List ℕ) (a b : ℕ) → IsByName classes → IsStrictBelow classes i → i < length classes
    → a < b → IsNamed classes other a → IsNamed classes other b → (other ≡ name_bytes (get_or classes i d)) ⊎ BytesBefore (name_bytes (get_or classes i d)) other
no_earlier classes i d other a b s strict l lt h k =
    let p = name_at classes other a d h in
    let q = name_at classes other b d k in
    elim (cases_lt b i) [
      | inl low ↦ absurd (not_before_itself other
          (subst (λ x. BytesBefore x other) p.0 (subst (BytesBefore (name_bytes (get_or classes a d))) q.0 (strictly classes i s strict (omega arith) a b d lt low))))
      | inr high ↦ elim (far classes s i b d high q.1) [
        | inl e ↦ inl (sym (e ∙ q.0))
        | inr before ↦ inr (subst (BytesBefore (name_bytes (get_or classes i d))) q.0 before)
      ]
    ]

pub is_named_at : (classes : List ClassFile) → All IsNamedClass classes → (i : ℕ) (d : ClassFile) → i < length classes → IsNamed classes (name_bytes (get_or classes i d)) i
is_named_at classes all i d l = (get_or classes i d, slice_get-get_or classes i d l, named_at classes all i d l)

pub least_twice : (classes : List ClassFile) → All IsNamedClass classes → IsByName classes → (i : ℕ) (d : ClassFile) → 1 ≤ i → i < length classes → IsStrictBelow classes i
    → name_bytes (get_or classes (i - 1) d) ≡ name_bytes (get_or classes i d) → IsLeastName (StandsTwice classes) (name_bytes (get_or classes i d))
least_twice classes all s i d one l strict e = (
  (i - 1, i, (λ h. omega arith), subst (λ x. IsNamed classes x (i - 1)) e (is_named_at classes all (i - 1) d (omega arith)), is_named_at classes all i d l),
  λ other t. elim (cases_order t.0 t.1) [
    | inl same ↦ absurd (t.2 same)
    | inr apart ↦ elim apart [
      | inl lt ↦ no_earlier classes i d other t.0 t.1 s strict l lt t.3 t.4
      | inr gt ↦ no_earlier classes i d other t.1 t.0 s strict l gt t.4 t.3
    ]
  ],
)
