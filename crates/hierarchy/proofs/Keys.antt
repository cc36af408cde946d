-- The names and descriptors of members, and their order.
use Rattle.std.proofs.Common.{◌≡◌, ℕ, ◌+◌, ◌<◌, ◌≤◌, ◌⊎◌, inl, inr, false, true, List, [], ◌∷◌, length, get_or, map, refl, sym, ap, subst, ◌∙◌, arith, Option, Some, None, Contains, Ordering}
use Rattle.std.specs.Prelude.{All, AllPairs, IsPermutation, IsSortedByKey, slice_get, unwrap_or}
use Rattle.std.specs.Option.{option_map_or}
use Rattle.std.specs.declared.cmp.Ordering.TheVariants.{Less, Equal, Greater}
use Rattle.std.specs.Ordering.{nat_cmp, ordering_then, MatchOrdering}
use Rattle.std.specs.Cmp.{IsTotalOrder}
use Rattle.std.specs.Cmp.Lexicographic.{slice_cmp}
use Rattle.std.proofs.lemmas.Bool.{cases_order, cases_lt, false≢true}
use Rattle.std.proofs.lemmas.Cmp.{nat_cmp_total, nat_list_cmp_total, on_total, then_total, tied_itself, ranked}
use Rattle.std.proofs.lemmas.Option.{slice_get_read, slice_get_within, slice_get_cases, get_or_from_slice_get, slice_get-get_or}
use Rattle.std.proofs.lemmas.List.{get_or-map, length-map}
use Rattle.std.proofs.lemmas.List.Elements.{All-get_or}
use Rattle.std.proofs.lemmas.List.Sorted.{ranks_by, sorted_far, All-permutation, Contains-permutation}
use Rattle.slicer_ids.specs.Order.{BytesBefore}
use Rattle.slicer_ids.specs.Sets.{IsOrderedListOf}
use Rattle.slicer_ids.specs.declared.ids.ClassId.{ClassId}
use Rattle.class_form.specs.Pools.{utf_at}
use Rattle.class_form.specs.Classes.{Declared, IsClass, IsDeclared}
use Rattle.class_form.specs.Numbers.{HasTexts, AreApart, IsNamedClass, MemberBefore, IsThere}
use Rattle.class_form.specs.declared.class_file.ClassFile.{ClassFile}
use Rattle.class_form.specs.declared.class_file.Member.{Member}
use Rattle.hierarchy.specs.declared.members.Kind.{Kind}
use Rattle.hierarchy.specs.declared.members.Kind.TheVariants.{Field, Method}
use Rattle.hierarchy.specs.Places.{members_of, IsMember, Declares, declared_at, IsPlace, PlaceBefore, ArePlaces, AreSamePlaces, text_bytes, name_in, descriptor_in, Texts, NumberKey, texts_of, texts_at, number_key_at, number_key_of, texts_cmp, number_cmp}
use Rattle.hierarchy.proofs.Bytes.{same_bytes, same_number, then_equal, cases_ordering}
use Rattle.hierarchy.proofs.Rows.{same_class}
use Rattle.hierarchy.proofs.Swaps.{IsWithoutRepeats, without_repeats, after_permutation}

pub texts_total : IsTotalOrder texts_cmp
texts_total = then_total (on_total (λ (t : Texts). t.name) nat_list_cmp_total) (on_total (λ (t : Texts). t.descriptor) nat_list_cmp_total)

pub number_total : IsTotalOrder number_cmp
number_total = then_total (on_total (λ (t : NumberKey). t.class) nat_cmp_total) (on_total (λ (t : NumberKey). t.texts) texts_total)

-- keys that tie are one
pub same_texts : (a b : Texts) → texts_cmp a b ≡ Equal → a ≡ b
same_texts a b e =
    let t = then_equal (slice_cmp nat_cmp a.name b.name) (slice_cmp nat_cmp a.descriptor b.descriptor) e in
    ap (λ n. texts_of n a.descriptor) (same_bytes a.name b.name t.0) ∙ ap (λ d. texts_of b.name d) (same_bytes a.descriptor b.descriptor t.1)

pub same_key : (a b : NumberKey) → number_cmp a b ≡ Equal → (a.class ≡ b.class) × (a.texts ≡ b.texts)
same_key a b e =
    let t = then_equal (nat_cmp a.class b.class) (texts_cmp a.texts b.texts) e in
    (same_number a.class b.class t.0, same_texts a.texts b.texts t.1)

then_less : (o p : Ordering) → ordering_then o p ≡ Less → (o ≡ Less) ⊎ ((o ≡ Equal) × (p ≡ Less))
then_less Less p e = inl refl
then_less Equal p e = inr (refl, e)
then_less Greater p e = absurd (cc e)

number_less : (x y : ℕ) → nat_cmp x y ≡ Less → x < y
number_less x y e = subst (λ o. MatchOrdering o (x < y) (x ≡ y) (y < x)) e (ranked x y (nat_cmp x y) refl)

-- what comes first by number
pub key_less : (a b : NumberKey) → number_cmp a b ≡ Less
    → (a.class < b.class) ⊎ ((a.class ≡ b.class) × (BytesBefore a.texts.name b.texts.name ⊎ ((a.texts.name ≡ b.texts.name) × BytesBefore a.texts.descriptor b.texts.descriptor)))
key_less a b e = elim (then_less (nat_cmp a.class b.class) (texts_cmp a.texts b.texts) e) [
  | inl lt ↦ inl (number_less a.class b.class lt)
  | inr h ↦ inr (
    same_number a.class b.class h.0,
    elim (then_less (slice_cmp nat_cmp a.texts.name b.texts.name) (slice_cmp nat_cmp a.texts.descriptor b.texts.descriptor) h.1) [
      | inl lt ↦ inl lt
      | inr g ↦ inr (same_bytes a.texts.name b.texts.name g.0, g.1)
    ],
  )
]

-- what numbering asks of a class file's members, for either kind
pub have_texts : (kind : Kind) (k : ClassFile) → IsNamedClass k → All (HasTexts k.pool) (members_of kind k)
have_texts Field k h = h.fields
have_texts Method k h = h.methods

pub are_apart : (kind : Kind) (k : ClassFile) → IsNamedClass k → AreApart k.pool (members_of kind k)
are_apart Field k h = h.apart_fields
are_apart Method k h = h.apart_methods

member_texts : (kind : Kind) (classes : List ClassFile) (c i : ℕ) (k : ClassFile) (m : Member) (n d : List ℕ) → IsClass classes c k → IsDeclared k (members_of kind k) n d i m
    → texts_at kind classes (record { 0 = c }, i) ≡ texts_of n d
member_texts kind classes c i k m n d at h =
    let e = ap (λ o. option_map_or (λ (q : ClassFile). name_in kind q i) o []) at ∙ ap (λ o. option_map_or (λ (q : Member). text_bytes k.pool q.name) o []) h.0 ∙ ap (λ o. unwrap_or o []) h.1 in
    let f = ap (λ o. option_map_or (λ (q : ClassFile). descriptor_in kind q i) o []) at ∙ ap (λ o. option_map_or (λ (q : Member). text_bytes k.pool q.descriptor) o []) h.0 ∙ ap (λ o. unwrap_or o []) h.2 in
    ap (λ x. texts_of x (texts_at kind classes (record { 0 = c }, i)).descriptor) e ∙ ap (λ x. texts_of n x) f

named_class : (classes : List ClassFile) (c : ℕ) (k : ClassFile) → All IsNamedClass classes → IsClass classes c k → IsNamedClass k
named_class classes c k all at =
    subst IsNamedClass (get_or_from_slice_get classes c k k at) (All-get_or IsNamedClass classes c k (slice_get_within classes c k at) all)

module _ (kind : Kind) (classes : List ClassFile) (named : All IsNamedClass classes) where
  -- a member is declared with the texts of its place
  pub at_place : (p : ClassId × ℕ) → IsPlace kind classes p → Declares kind classes (texts_at kind classes p).name (texts_at kind classes p).descriptor (declared_at p)
  at_place p (k, at, l) = elim (slice_get_cases (members_of kind k) p.1).1 [
    | inl r ↦
        let t = subst (HasTexts k.pool) r.3 (All-get_or (HasTexts k.pool) (members_of kind k) p.1 r.0 l (have_texts kind k (named_class classes p.0.0 k named at))) in
        let e = member_texts kind classes p.0.0 p.1 k r.0 t.0 t.1 at (r.2, t.2, t.3) in
        (k, r.0, at, (r.2, t.2 ∙ ap (λ (x : Texts). Some x.name) (sym e), t.3 ∙ ap (λ (x : Texts). Some x.descriptor) (sym e)))
    | inr past ↦ absurd (omega (arith, past.0, l))
  ]

  -- .. and stands at a place with its texts
  pub place_of : (n d : List ℕ) (x : Declared) → Declares kind classes n d x → IsPlace kind classes (record { 0 = x.class }, x.index) × (texts_at kind classes (record { 0 = x.class }, x.index) ≡ texts_of n d)
  place_of n d x (k, m, at, h) = ((k, at, slice_get_within (members_of kind k) x.index m h.0), member_texts kind classes x.class x.index k m n d at h)

  -- a class declares a name and descriptor once
  pub one_index : (n d : List ℕ) (x y : Declared) → x.class ≡ y.class → Declares kind classes n d x → Declares kind classes n d y → x.index ≡ y.index
  one_index n d x y e (k, m, at, h) (j, o, there, g) =
      let same : k ≡ j = same_class classes y.class k j (subst (λ c. IsClass classes c k) e at) there in
      let g = subst (λ (q : ClassFile). IsDeclared q (members_of kind q) n d y.index o) (sym same) g in
      let apart = are_apart kind k (named_class classes x.class k named at) in
      let one = get_or_from_slice_get (members_of kind k) x.index m m h.0 in
      let two = get_or_from_slice_get (members_of kind k) y.index o m g.0 in
      let n_same : utf_at k.pool m.name ≡ utf_at k.pool o.name = h.1 ∙ sym g.1 in
      let d_same : utf_at k.pool m.descriptor ≡ utf_at k.pool o.descriptor = h.2 ∙ sym g.2 in
      elim (cases_order x.index y.index) [
        | inl is ↦ is
        | inr other ↦ elim other [
          | inl lt ↦ absurd (apart x.index y.index m lt (slice_get_within (members_of kind k) y.index o g.0)
              (ap (λ (q : Member). utf_at k.pool q.name) one ∙ n_same ∙ ap (λ (q : Member). utf_at k.pool q.name) (sym two), ap (λ (q : Member). utf_at k.pool q.descriptor) one ∙ d_same ∙ ap (λ (q : Member). utf_at k.pool q.descriptor) (sym two)))
          | inr gt ↦ absurd (apart y.index x.index m gt (slice_get_within (members_of kind k) x.index m h.0)
              (ap (λ (q : Member). utf_at k.pool q.name) two ∙ sym n_same ∙ ap (λ (q : Member). utf_at k.pool q.name) (sym one), ap (λ (q : Member). utf_at k.pool q.descriptor) two ∙ sym d_same ∙ ap (λ (q : Member). utf_at k.pool q.descriptor) (sym one)))
        ]
      ]

  -- places with one key are one
  pub one_place_of : (p q : ClassId × ℕ) → IsPlace kind classes p → IsPlace kind classes q → p.0.0 ≡ q.0.0 → texts_at kind classes p ≡ texts_at kind classes q → p ≡ q
  one_place_of p q h g e t =
      let x = at_place p h in
      let y = subst (λ (u : Texts). Declares kind classes u.name u.descriptor (declared_at q)) (sym t) (at_place q g) in
      let i = one_index (texts_at kind classes p).name (texts_at kind classes p).descriptor (declared_at p) (declared_at q) e x y in
      let f : ℕ → ℕ → ClassId × ℕ = λ c n. (record { 0 = c }, n) in
      ap (λ c. f c p.1) e ∙ ap (λ n. f q.0.0 n) i
