-- Lists in order that are joined, and sets that they are the members of.
use Rattle.std.proofs.Common.{◌≡◌, ◌⊎◌, ◌<◌, ◌+◌, ◌++◌, ℕ, zero, suc, List, [], ◌∷◌, length, Contains, Some, inl, inr, refl, sym, ap, subst, ◌∙◌, append_assoc, arith}
use Rattle.std.specs.Prelude.{slice_get, AllPairs, map}
use Rattle.std.proofs.lemmas.Option.{same_Some, slice_get_within}
use Rattle.std.proofs.lemmas.List.{append-nil}
use Rattle.std.proofs.lemmas.List.Elements.{All-contains, Contains-append_left, Contains-append_right}
use Rattle.class_form.proofs.Indices.{index_in, there_at}
use Rattle.slicer_ids.specs.Sets.{IsOrderedListOf}
use Rattle.fact_form.proofs.ItemLists.{all_of, joined, map_at, mapped, pair_at, pairs_of}

module _ {A : Type 0} (B : A → A → Type 0) where
  pub at : (xs : List A) (P : A → Type 0) → IsOrderedListOf B xs P → (i : ℕ) (x : A) → slice_get xs i ≡ Some x → P x
  at xs P o i x e = All-contains P xs x o.each (there_at xs i x e)

  pub ordered_none : (P : A → Type 0) → ((x : A) → P x → ⊥) → IsOrderedListOf B [] P
  ordered_none P never = record {
    each = λ i d lt. absurd (omega (arith, lt));
    order = λ i j d lt within. absurd (omega (arith, within));
    whole = λ x p. absurd (never x p);
  }

  pub ordered_one : (x : A) → IsOrderedListOf B (x ∷ []) (λ y. y ≡ x)
  ordered_one x = record {
    each = all_of (λ y. y ≡ x) (x ∷ []) only;
    order = λ i j d lt within. absurd (omega (arith, lt, within));
    whole = λ y e. (0, omega arith, sym e);
  }
    where
      only : (i : ℕ) (y : A) → slice_get (x ∷ []) i ≡ Some y → y ≡ x
      only zero y e = sym (same_Some x y e)
      only (suc i) y e = absurd (omega (arith, slice_get_within (x ∷ []) (suc i) y e))

  pub ordered_same : (xs : List A) (P Q : A → Type 0) → ((x : A) → P x → Q x) → ((x : A) → Q x → P x) → IsOrderedListOf B xs P → IsOrderedListOf B xs Q
  ordered_same xs P Q to from o = record { each = all_of Q xs (λ i x e. to x (at xs P o i x e)); order = o.order; whole = λ x q. o.whole x (from x q) }

  module _ (xs ys : List A) (P Q : A → Type 0) (o : IsOrderedListOf B xs P) (u : IsOrderedListOf B ys Q) (before : (x y : A) → P x → Q y → B x y) where
    both_order : (i j : ℕ) (x y : A) → i < j → slice_get (xs ++ ys) i ≡ Some x → slice_get (xs ++ ys) j ≡ Some y → B x y
    both_order i j x y lt e f = elim (joined xs ys i x e) [
      | inl here ↦ elim (joined xs ys j y f) [
        | inl there ↦ pair_at B xs o.order i j x y lt here there
        | inr there ↦ before x y (at xs P o i x here) (at ys Q u there.0 y there.2)
      ]
      | inr here ↦ elim (joined xs ys j y f) [
        | inl there ↦ absurd (omega (arith, lt, here.1, slice_get_within xs j y there))
        | inr there ↦ pair_at B ys u.order here.0 there.0 x y (omega (arith, lt, here.1, there.1)) here.2 there.2
      ]
    ]

    pub ordered_both : IsOrderedListOf B (xs ++ ys) (λ x. P x ⊎ Q x)
    ordered_both = record {
      each = all_of (λ x. P x ⊎ Q x) (xs ++ ys) (λ i x e. elim (joined xs ys i x e) [ inl here ↦ inl (at xs P o i x here) | inr there ↦ inr (at ys Q u there.0 x there.2) ]);
      order = pairs_of B (xs ++ ys) both_order;
      whole = λ x h. elim h [ inl p ↦ Contains-append_left xs ys x (o.whole x p) | inr q ↦ Contains-append_right xs ys x (u.whole x q) ];
    }

-- what a function that keeps the order makes of the members
pub ordered_map : {A C : Type 0} (B : A → A → Type 0) (D : C → C → Type 0) (f : A → C) (xs : List A) (P : A → Type 0) → ((x y : A) → B x y → D (f x) (f y)) → IsOrderedListOf B xs P
    → IsOrderedListOf D (map f xs) (λ z. (x : A) × P x × (z ≡ f x))
ordered_map {A} {C} B D f xs P keeps o = record {
  each = all_of (λ z. (x : A) × P x × (z ≡ f x)) (map f xs) (λ i z e. let m = mapped f xs i z e in (m.0, at B xs P o i m.0 m.1, sym m.2));
  order = pairs_of D (map f xs) pairs;
  whole = λ z h. let i = index_in xs h.0 (o.whole h.0 h.1) in there_at (map f xs) i.0 z (map_at f xs i.0 h.0 i.1 ∙ ap (λ (c : C). Some c) (sym h.2));
}
  where
    pairs : (i j : ℕ) (x y : C) → i < j → slice_get (map f xs) i ≡ Some x → slice_get (map f xs) j ≡ Some y → D x y
    pairs i j x y lt e g =
        let a = mapped f xs i x e in
        let b = mapped f xs j y g in
        subst (λ z. D x z) b.2 (subst (λ z. D z (f b.0)) a.2 (keeps a.0 b.0 (pair_at B xs o.order i j a.0 b.0 lt a.1 b.1)))
