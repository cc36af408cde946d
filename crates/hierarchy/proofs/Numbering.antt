-- Members in the order of their numbers and in that of their names and descriptors.
use Rattle.std.proofs.Common.{◌≡◌, ℕ, ◌+◌, ◌-◌, ◌<◌, ◌≤◌, ◌⊎◌, ◌^◌, ◌↔◌, inl, inr, false, true, List, [], ◌∷◌, length, get_or, take, drop, map, refl, sym, ap, subst, ◌∙◌, arith, Option, Some, None, Contains, Ordering}
use Rattle.std.specs.Prelude.{All, AllPairs, IsPermutation, IsSortedByKey, slice_get, slice_range}
use Rattle.std.specs.declared.cmp.Ordering.TheVariants.{Less, Equal, Greater}
use Rattle.std.specs.Ordering.{is_lt, is_le, ordering_index, ordering_reverse}
use Rattle.std.specs.List.{HoldsAt, AllWithin}
use Rattle.std.specs.List.Sorted.{IsPartitionPoint, IsPartitionedBy}
use Rattle.std.proofs.lemmas.Bool.{cases_order, cases_lt, false≢true}
use Rattle.std.proofs.lemmas.Cmp.{tied_itself}
use Rattle.std.proofs.lemmas.Option.{slice_get_cases, slice_get_within}
use Rattle.std.proofs.lemmas.List.{get_or-map, length-map, get_or-take, get_or-drop, length-take, length-drop}
use Rattle.std.proofs.lemmas.List.Elements.{All-get_or, All-map, All-weaker, All-contains}
use Rattle.std.proofs.lemmas.List.Sorted.{ranks_by, sorted_far, searchable_from_sorted, All-permutation, Contains-permutation, length_permutation}
use Rattle.slicer_ids.specs.Sets.{IsOrderedListOf}
use Rattle.slicer_ids.specs.declared.ids.ClassId.{ClassId}
use Rattle.class_form.specs.Classes.{Declared}
use Rattle.class_form.specs.Numbers.{IsNamedClass, MemberBefore, IsThere}
use Rattle.class_form.specs.declared.class_file.ClassFile.{ClassFile}
use Rattle.hierarchy.specs.declared.members.Kind.{Kind}
use Rattle.hierarchy.specs.declared.members.Members.{Members}
use Rattle.hierarchy.specs.Visits.{IsOneOf}
use Rattle.hierarchy.specs.Numbered.{AreMembers, IsNumber, DeclaresNone, DeclaresSome}
use Rattle.hierarchy.specs.Places.{IsMember, Declares, declared_at, IsPlace, PlaceBefore, ArePlaces, AreSamePlaces, count_members, Texts, NumberKey, texts_of, texts_at, number_key_at, number_key_of, texts_cmp, number_cmp}
use Rattle.hierarchy.proofs.Bytes.{cases_ordering}
use Rattle.hierarchy.proofs.Keys.{texts_total, number_total, same_texts, same_key, key_less, at_place, place_of, one_place_of}
use Rattle.hierarchy.proofs.Swaps.{IsWithoutRepeats, without_repeats, after_permutation}

-- what isn't before comes after or ties
not_after : (o p : Ordering) → is_lt p ≡ false → o ≡ ordering_reverse p → (o ≡ Less) ⊎ (o ≡ Equal)
not_after o Less e f = absurd (false≢true (sym e))
not_after o Equal e f = inr f
not_after o Greater e f = inl f

never_itself : (p : ClassId × ℕ) → PlaceBefore p p → ⊥
never_itself p h = elim h [ inl lt ↦ omega (arith, lt) | inr e ↦ omega (arith, e.1) ]

module _ (kind : Kind) (classes : List ClassFile) (named : All IsNamedClass classes) where
  pub same_places : (all ps : List (ClassId × ℕ)) → ArePlaces kind classes all → IsPermutation all ps → AreSamePlaces kind classes ps
  same_places all ps h perm = record {
    each = All-permutation (IsPlace kind classes) all ps perm h.each;
    whole = λ p i. Contains-permutation all ps p perm (h.whole p i);
  }

  in_order : (ps : List (ClassId × ℕ)) → AreSamePlaces kind classes ps → IsWithoutRepeats ps → IsSortedByKey (number_key_at kind classes) number_cmp ps
      → (i j : ℕ) (d : ClassId × ℕ) → i < j → j < length ps → MemberBefore (IsMember kind classes) (declared_at (get_or ps i d)) (declared_at (get_or ps j d))
  in_order ps same once sorted i j d lt within =
      let p = get_or ps i d in
      let q = get_or ps j d in
      let p_is = All-get_or (IsPlace kind classes) ps i d (omega arith) same.each in
      let q_is = All-get_or (IsPlace kind classes) ps j d within same.each in
      let x = at_place kind classes named p p_is in
      let y = at_place kind classes named q q_is in
      let key = number_key_at kind classes in
      let far = sorted_far (λ a b. is_lt (number_cmp (key a) (key b))) (ranks_by number_total key) ps sorted i j d (omega arith) within in
      elim (not_after (number_cmp (key p) (key q)) (number_cmp (key q) (key p)) far (number_total.antisymm (key p) (key q))) [
        | inl less ↦ (
          x.1,
          (texts_at kind classes p).name,
          (texts_at kind classes p).descriptor,
          y.1,
          (texts_at kind classes q).name,
          (texts_at kind classes q).descriptor,
          (x.0, x.2, x.3),
          (y.0, y.2, y.3),
          key_less (key p) (key q) less,
        )
        | inr tie ↦
            let e = same_key (key p) (key q) tie in
            absurd (omega (arith, once.one i j d (omega arith) within (one_place_of kind classes named p q p_is q_is e.0 e.1)))
      ]

  pub numbered_from : (ps : List (ClassId × ℕ)) → AreSamePlaces kind classes ps → IsWithoutRepeats ps → IsSortedByKey (number_key_at kind classes) number_cmp ps
      → IsOrderedListOf (MemberBefore (IsMember kind classes)) (map declared_at ps) (IsThere (IsMember kind classes))
  numbered_from ps same once sorted = record {
    each = All-map (IsThere (IsMember kind classes)) declared_at ps
        (All-weaker (IsPlace kind classes) (λ p. IsThere (IsMember kind classes) (declared_at p))
        (λ p h. let x = at_place kind classes named p h in (x.1, (texts_at kind classes p).name, (texts_at kind classes p).descriptor, (x.0, x.2, x.3))) ps same.each);
    order = λ i j d lt within.
        let e : ClassId × ℕ = (record { 0 = d.class }, d.index) in
        let l = length-map ps declared_at in
        let p = get_or-map declared_at ps i e d (omega arith) in
        let q = get_or-map declared_at ps j e d (omega arith) in
        subst (λ (a : Declared). MemberBefore (IsMember kind classes) a (get_or (map declared_at ps) j d)) (sym p)
        (subst (λ (b : Declared). MemberBefore (IsMember kind classes) (declared_at (get_or ps i e)) b) (sym q) (in_order ps same once sorted i j e lt (omega arith)));
    whole = λ x there.
        let at = place_of kind classes named there.1 there.2 x (there.3.0, there.0, there.3.1, there.3.2) in
        let c = same.whole (record { 0 = x.class }, x.index) at.0 in
        (c.0, omega (arith, length-map ps declared_at, c.1), get_or-map declared_at ps c.0 (record { 0 = x.class }, x.index) x c.1 ∙ ap declared_at c.2);
  }

  pub members_from : (all ps copied ts : List (ClassId × ℕ)) (members : Members) → ArePlaces kind classes all → length all ≡ count_members kind classes → count_members kind classes < 2 ^ 32
      → IsPermutation all ps → IsSortedByKey (number_key_at kind classes) number_cmp ps → copied ≡ all → IsPermutation copied ts → IsSortedByKey (texts_at kind classes) texts_cmp ts
      → members.places.items ≡ ps → members.by_texts.items ≡ ts → AreMembers kind classes members
  members_from all ps copied ts members h count few p s copy q t e f =
      let once = after_permutation all ps p (without_repeats PlaceBefore all never_itself h.order) in
      let same = same_places all ps h p in
      let again = same_places all ts h (subst (λ (xs : List (ClassId × ℕ)). IsPermutation xs ts) copy q) in
      record {
        few = omega (arith, ap length e, length_permutation all ps p);
        numbered = subst (λ (xs : List (ClassId × ℕ)). IsOrderedListOf (MemberBefore (IsMember kind classes)) (map declared_at xs) (IsThere (IsMember kind classes))) (sym e) (numbered_from ps same once s);
        same = subst (AreSamePlaces kind classes) (sym e) same;
        sorted = subst (λ (xs : List (ClassId × ℕ)). IsSortedByKey (number_key_at kind classes) number_cmp xs) (sym e) s;
        same_again = subst (AreSamePlaces kind classes) (sym f) again;
        sorted_by_texts = subst (λ (xs : List (ClassId × ℕ)). IsSortedByKey (texts_at kind classes) texts_cmp xs) (sym f) t;
      }

  -- a search by number
  module _ (name descriptor : List ℕ) (class : ℕ) where
    pub found_number : (xs ps : List (ClassId × ℕ)) (n : ℕ) → xs ≡ ps → AreSamePlaces kind classes ps → n < length xs
        → HoldsAt (λ p. number_cmp (number_key_at kind classes p) (number_key_of class name descriptor) ≡ Equal) xs n → IsNumber kind classes ps name descriptor class n
    found_number xs ps n e same l h = elim (slice_get_cases ps n).1 [
      | inl r ↦
          let k = subst (λ (ys : List (ClassId × ℕ)). number_cmp (number_key_at kind classes (get_or ys n r.0)) (number_key_of class name descriptor) ≡ Equal) e (h r.0) in
          let t = subst (λ (p : ClassId × ℕ). number_cmp (number_key_at kind classes p) (number_key_of class name descriptor) ≡ Equal) r.3 k in
          let is = same_key (number_key_at kind classes r.0) (number_key_of class name descriptor) t in
          let place = subst (IsPlace kind classes) r.3 (All-get_or (IsPlace kind classes) ps n r.0 r.1 same.each) in
          (r.0, r.2, is.0, subst (λ (u : Texts). Declares kind classes u.name u.descriptor (declared_at r.0)) is.1 (at_place kind classes named r.0 place))
      | inr past ↦ absurd (omega (arith, past.0, ap length e, l))
    ]

    pub missed_number : (xs ps : List (ClassId × ℕ)) (n : ℕ) → xs ≡ ps → AreSamePlaces kind classes ps
        → IsPartitionPoint (λ p. number_cmp (number_key_at kind classes p) (number_key_of class name descriptor) ≡ Less) (λ p. number_cmp (number_key_at kind classes p) (number_key_of class name descriptor) ≡ Greater) xs n
        → DeclaresNone kind classes name descriptor class
    missed_number xs ps n e same point d is decl =
        let at = place_of kind classes named name descriptor d decl in
        let p : ClassId × ℕ = (record { 0 = d.class }, d.index) in
        let c = subst (λ (ys : List (ClassId × ℕ)). Contains ys p) (sym e) (same.whole p at.0) in
        let x = number_key_of class name descriptor in
        let key : number_key_at kind classes p ≡ x = ap (λ n. record { class = n; texts = texts_at kind classes p }) is ∙ ap (λ (t : Texts). record { class = class; texts = t }) at.1 in
        let tie : number_cmp (number_key_at kind classes (get_or xs c.0 p)) x ≡ Equal = ap (λ (q : ClassId × ℕ). number_cmp (number_key_at kind classes q) x) c.2 ∙ ap (λ (k : NumberKey). number_cmp k x) key ∙ tied_itself number_total x in
        elim (cases_lt c.0 n) [
          | inl lt ↦ absurd (cc (sym (point.0 c.0 p (omega arith) lt) ∙ tie))
          | inr ge ↦ absurd (cc (sym (point.1 c.0 p ge c.1) ∙ tie))
        ]

-- tests of an order go one way
lt_down : (o p : Ordering) → ordering_index o ≤ ordering_index p → is_lt p ≡ true → is_lt o ≡ true
lt_down Less p l e = refl
lt_down Equal Less l e = absurd (omega (arith, l))
lt_down Equal Equal l e = absurd (false≢true e)
lt_down Equal Greater l e = absurd (false≢true e)
lt_down Greater Less l e = absurd (omega (arith, l))
lt_down Greater Equal l e = absurd (omega (arith, l))
lt_down Greater Greater l e = absurd (false≢true e)

le_down : (o p : Ordering) → ordering_index o ≤ ordering_index p → is_le p ≡ true → is_le o ≡ true
le_down Less p l e = refl
le_down Equal p l e = refl
le_down Greater Less l e = absurd (omega (arith, l))
le_down Greater Equal l e = absurd (omega (arith, l))
le_down Greater Greater l e = absurd (false≢true e)

lt_le : (o : Ordering) → is_lt o ≡ true → is_le o ≡ false → ⊥
lt_le Less e f = false≢true (sym f)
lt_le Equal e f = false≢true e
lt_le Greater e f = false≢true e

between : (o : Ordering) → is_lt o ≡ false → is_le o ≡ true → o ≡ Equal
between Less e f = absurd (false≢true (sym e))
between Equal e f = refl
between Greater e f = absurd (false≢true f)

module _ (kind : Kind) (classes : List ClassFile) (x : Texts) where
  pub before_partitioned : (places : List (ClassId × ℕ)) → IsSortedByKey (texts_at kind classes) texts_cmp places → IsPartitionedBy (λ p. is_lt (texts_cmp (texts_at kind classes p) x)) places
  before_partitioned places sorted i j d l m e = lt_down _ _ (searchable_from_sorted texts_total (texts_at kind classes) places x sorted i j d l m) e

  pub up_to_partitioned : (places : List (ClassId × ℕ)) → IsSortedByKey (texts_at kind classes) texts_cmp places → IsPartitionedBy (λ p. is_le (texts_cmp (texts_at kind classes p) x)) places
  up_to_partitioned places sorted i j d l m e = le_down _ _ (searchable_from_sorted texts_total (texts_at kind classes) places x sorted i j d l m) e

  -- the members of a name and descriptor lie between two places
  pub record AreBetween (places : List (ClassId × ℕ)) (low high : ℕ) : Type 0 where
    pub low_within : low ≤ length places
    pub high_within : high ≤ length places
    pub before : IsPartitionPoint (λ p. is_lt (texts_cmp (texts_at kind classes p) x) ≡ true) (λ p. is_lt (texts_cmp (texts_at kind classes p) x) ≡ false) places low
    pub up_to : IsPartitionPoint (λ p. is_le (texts_cmp (texts_at kind classes p) x) ≡ true) (λ p. is_le (texts_cmp (texts_at kind classes p) x) ≡ false) places high

  pub low_high : (places : List (ClassId × ℕ)) (low high : ℕ) → AreBetween places low high → low ≤ high
  low_high places low high b = elim (cases_lt high low) [
    | inl lt ↦
        let d : ClassId × ℕ = (record { 0 = 0 }, 0) in
        absurd (lt_le (texts_cmp (texts_at kind classes (get_or places high d)) x) (b.before.0 high d (omega arith) lt) (b.up_to.1 high d (omega arith) (omega (arith, b.low_within))))
    | inr le ↦ le
  ]

  run_at : (places : List (ClassId × ℕ)) (low high k : ℕ) (d : ClassId × ℕ) → AreBetween places low high → k < length (slice_range places low high)
      → (low + k < high) × (get_or (slice_range places low high) k d ≡ get_or places (low + k) d)
  run_at places low high k d b l =
      let len = length-take (high - low) (drop low places) in
      let lt : k < high - low = omega (arith, len, l) in
      (omega (arith, low_high places low high b), get_or-take (high - low) (drop low places) k d lt ∙ get_or-drop low places k d)

  pub run_texts : (places : List (ClassId × ℕ)) (low high k : ℕ) (p : ClassId × ℕ) → AreBetween places low high → k < length (slice_range places low high)
      → get_or (slice_range places low high) k p ≡ p → (texts_at kind classes p ≡ x) × Contains places p
  run_texts places low high k p b l e =
      let r = run_at places low high k p b l in
      let at = sym r.1 ∙ e in
      let inside : low + k < length places = omega (arith, r.0, b.high_within) in
      let o = between (texts_cmp (texts_at kind classes (get_or places (low + k) p)) x) (b.before.1 (low + k) p (omega arith) inside) (b.up_to.0 (low + k) p (omega arith) r.0) in
      (same_texts (texts_at kind classes p) x (subst (λ (q : ClassId × ℕ). texts_cmp (texts_at kind classes q) x ≡ Equal) at o), (low + k, inside, at))

  pub in_run : (places : List (ClassId × ℕ)) (low high : ℕ) (p : ClassId × ℕ) → AreBetween places low high → texts_at kind classes p ≡ x → Contains places p → Contains (slice_range places low high) p
  in_run places low high p b e c =
      let tie : texts_cmp (texts_at kind classes (get_or places c.0 p)) x ≡ Equal = ap (λ (q : ClassId × ℕ). texts_cmp (texts_at kind classes q) x) c.2 ∙ ap (λ (t : Texts). texts_cmp t x) e ∙ tied_itself texts_total x in
      let from : low ≤ c.0 = elim (cases_lt c.0 low) [ inl lt ↦ absurd (false≢true (ap is_lt (sym tie) ∙ b.before.0 c.0 p (omega arith) lt)) | inr ge ↦ ge ] in
      let to : c.0 < high = elim (cases_lt c.0 high) [ inl lt ↦ lt | inr ge ↦ absurd (false≢true (sym (b.up_to.1 c.0 p ge c.1) ∙ ap is_le tie)) ] in
      let len = length-take (high - low) (drop low places) in
      let rest = length-drop low places in
      let lt : c.0 - low < length (slice_range places low high) = omega (arith, len, rest, b.high_within, c.1) in
      let r = run_at places low high (c.0 - low) p b lt in
      let place : low + (c.0 - low) ≡ c.0 = omega arith in
      (c.0 - low, lt, r.1 ∙ ap (λ n. get_or places n p) place ∙ c.2)

-- the members of a name and descriptor
module _ (kind : Kind) (classes : List ClassFile) (named : All IsNamedClass classes) (name descriptor : List ℕ) (places : List (ClassId × ℕ)) (low high : ℕ)
    (same : AreSamePlaces kind classes places) (b : AreBetween kind classes (texts_of name descriptor) places low high) where
  pub run_within : All (λ p. p.0.0 < length classes) (slice_range places low high)
  run_within k d l =
      let r = run_at kind classes (texts_of name descriptor) places low high k d b l in
      let inside : low + k < length places = omega (arith, r.0, b.high_within) in
      let h = All-get_or (IsPlace kind classes) places (low + k) d inside same.each in
      let w = slice_get_within classes (get_or places (low + k) d).0.0 h.0 h.1 in
      subst (λ (p : ClassId × ℕ). p.0.0 < length classes) (sym r.1) w

  pub run_exact : (c : ℕ) → IsOneOf (slice_range places low high) c ↔ DeclaresSome kind classes name descriptor c
  run_exact c = (
    λ h.
        let t = run_texts kind classes (texts_of name descriptor) places low high h.0 h.1 b h.2 h.3 in
        let p = All-contains (IsPlace kind classes) places h.1 same.each t.1 in
        (declared_at h.1, h.4, subst (λ (u : Texts). Declares kind classes u.name u.descriptor (declared_at h.1)) t.0 (at_place kind classes named h.1 p)),
    λ h.
        let at = place_of kind classes named name descriptor h.0 h.2 in
        let p : ClassId × ℕ = (record { 0 = h.0.class }, h.0.index) in
        let m = in_run kind classes (texts_of name descriptor) places low high p b at.1 (same.whole p at.0) in
        (m.0, p, m.1, m.2, h.1),
  )

  pub run_exact_in : (run : List (ClassId × ℕ)) → run ≡ slice_range places low high → (c : ℕ) → IsOneOf run c ↔ DeclaresSome kind classes name descriptor c
  run_exact_in run e c = subst (λ (xs : List (ClassId × ℕ)). IsOneOf xs c ↔ DeclaresSome kind classes name descriptor c) (sym e) (run_exact c)
