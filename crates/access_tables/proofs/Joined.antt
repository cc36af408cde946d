-- Accesses of statements, one list after another.
use Rattle.std.proofs.Common.{◌≡◌, ◌⊎◌, ◌<◌, ◌++◌, ℕ, List, [], ◌∷◌, Contains, inl, inr, refl, length, ◌+◌, Some, sym, ap, subst, ◌∙◌, arith, append_assoc}
use Rattle.std.specs.Prelude.{slice_get}
use Rattle.std.proofs.lemmas.Option.{slice_get_within}
use Rattle.std.specs.declared.cmp.Ordering.TheVariants.{Less}
use Rattle.std.proofs.lemmas.List.{append-nil}
use Rattle.class_form.proofs.Indices.{index_in, there_at, head_or}
use Rattle.dep_form.specs.Keys.{key_of_access}
use Rattle.dep_form.specs.Orders.{statement_cmp}
use Rattle.dep_form.specs.declared.access.Access.{Access}
use Rattle.fact_form.proofs.ItemLists.{join_left, join_right, joined, pair_at, pairs_of}
use Rattle.slicer_ids.specs.declared.ids.Statement.{Statement}
use Rattle.access_tables.specs.Tables.{AddsAccesses}

abbrev Item : Type 0
Item = Statement × Access

abbrev Before : Item → Item → Type 0
Before a b = statement_cmp (key_of_access a) (key_of_access b) ≡ Less

module _ (H : Statement → Access → Type 0) where
  pub adds_none : (xs : List Item) (P : Statement → Type 0) → ((t : Statement) → P t → ⊥) → AddsAccesses xs xs P H
  adds_none xs P never = record {
    more = [];
    is = sym (append-nil xs);
    order = λ i j d lt within. absurd (omega (arith, within));
    each = λ t a c. absurd (omega (arith, c.1));
    whole = λ t p. absurd (never t p);
  }

  pub adds_one : (old new : List Item) (P : Statement → Type 0) (t : Statement) (a : Access) → ((u : Statement) → P u → u ≡ t) → P t → H t a → new ≡ old ++ (t, a) ∷ [] → AddsAccesses old new P H
  adds_one old new P t a only here has e = record {
    more = (t, a) ∷ [];
    is = e;
    order = λ i j d lt within. absurd (omega (arith, lt, within));
    each = λ u b c. elim (head_or (t, a) (u, b) [] c) [
      | inl same ↦ subst (λ (x : Item). P x.0 × H x.0 x.1) same (here, has)
      | inr none ↦ absurd (omega (arith, none.1))
    ];
    whole = λ u p. (a, subst (λ (v : Statement). Contains {X = Item} ((t, a) ∷ []) (v, a)) (sym (only u p)) (0, omega arith, refl));
  }

  pub adds_both : (old mid new : List Item) (P Q R : Statement → Type 0) → ((t : Statement) → R t → P t ⊎ Q t) → ((t : Statement) → P t ⊎ Q t → R t) → ((t u : Statement) → P t → Q u → statement_cmp t u ≡ Less) →
      AddsAccesses old mid P H → AddsAccesses mid new Q H → AddsAccesses old new R H
  adds_both old mid new P Q R to from below a b = record {
    more = a.more ++ b.more;
    is = b.is ∙ ap (λ (xs : List Item). xs ++ b.more) a.is ∙ append_assoc old a.more b.more;
    order = pairs_of Before (a.more ++ b.more) (λ i j x y lt ex ey. by_parts i j x y lt (joined a.more b.more i x ex) (joined a.more b.more j y ey));
    each = λ t z c. by_part t z (index_in (a.more ++ b.more) (t, z) c);
    whole = λ t r. elim (to t r) [
      | inl p ↦ let w = a.whole t p in let i = index_in a.more (t, w.0) w.1 in (w.0, there_at (a.more ++ b.more) i.0 (t, w.0) (join_left a.more b.more i.0 (t, w.0) i.1))
      | inr q ↦ let w = b.whole t q in let i = index_in b.more (t, w.0) w.1 in (w.0, there_at (a.more ++ b.more) _ (t, w.0) (join_right a.more b.more i.0 _ (t, w.0) refl i.1))
    ];
  }
    where
      by_part : (t : Statement) (z : Access) → ((k : ℕ) × (slice_get (a.more ++ b.more) k ≡ Some (t, z))) → R t × H t z
      by_part t z (k, at) = elim (joined a.more b.more k (t, z) at) [
        | inl h ↦ let w = a.each t z (there_at a.more k (t, z) h) in (from t (inl w.0), w.1)
        | inr g ↦ let w = b.each t z (there_at b.more g.0 (t, z) g.2) in (from t (inr w.0), w.1)
      ]

      by_parts : (i j : ℕ) (x y : Item) → i < j → (slice_get a.more i ≡ Some x) ⊎ ((k : ℕ) × (i ≡ length a.more + k) × (slice_get b.more k ≡ Some x)) →
          (slice_get a.more j ≡ Some y) ⊎ ((k : ℕ) × (j ≡ length a.more + k) × (slice_get b.more k ≡ Some y)) → Before x y
      by_parts i j x y lt (inl h) (inl g) = pair_at Before a.more a.order i j x y lt h g
      by_parts i j x y lt (inl h) (inr (k, e, g)) = below x.0 y.0 (a.each x.0 x.1 (there_at a.more i x h)).0 (b.each y.0 y.1 (there_at b.more k y g)).0
      by_parts i j x y lt (inr (k, e, h)) (inl g) = absurd (omega (arith, lt, e, slice_get_within a.more j y g))
      by_parts i j x y lt (inr (k, e, h)) (inr (m, f, g)) = pair_at Before b.more b.order k m x y (omega (arith, lt, e, f)) h g

  pub adds_same : (old new : List Item) (P Q : Statement → Type 0) → ((t : Statement) → P t → Q t) → ((t : Statement) → Q t → P t) → AddsAccesses old new P H → AddsAccesses old new Q H
  adds_same old new P Q to from a = record { more = a.more; is = a.is; order = a.order; each = λ t z c. (to t (a.each t z c).0, (a.each t z c).1); whole = λ t q. a.whole t (from t q) }

-- the same lists, with more said of each access
pub adds_as : (H G : Statement → Access → Type 0) (old new : List Item) (P : Statement → Type 0) → ((t : Statement) (a : Access) → P t → H t a → G t a) → AddsAccesses old new P H → AddsAccesses old new P G
adds_as H G old new P to a = record { more = a.more; is = a.is; order = a.order; each = λ t z c. let w = a.each t z c in (w.0, to t z w.0 w.1); whole = a.whole }
