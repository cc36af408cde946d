-- Values of statements, one list after another.
use Rattle.std.proofs.Common.{◌≡◌, ◌⊎◌, ◌<◌, ◌++◌, ℕ, List, [], ◌∷◌, Contains, inl, inr, refl, length, ◌+◌, Some, sym, ap, subst, ◌∙◌, arith, append_assoc}
use Rattle.std.specs.Prelude.{slice_get}
use Rattle.std.proofs.lemmas.Option.{slice_get_within}
use Rattle.std.specs.declared.cmp.Ordering.TheVariants.{Less}
use Rattle.std.proofs.lemmas.List.{append-nil}
use Rattle.class_form.proofs.Indices.{index_in, there_at, head_or}
use Rattle.dep_form.specs.Keys.{key_of_value}
use Rattle.dep_form.specs.Orders.{RiseBy, statement_cmp}
use Rattle.fact_form.proofs.ItemLists.{join_left, join_right, joined, pair_at, pairs_of}
use Rattle.slicer_ids.specs.Order.{SiteBefore}
use Rattle.slicer_ids.specs.Sets.{IsOrderedListOf}
use Rattle.slicer_ids.specs.declared.ids.SiteId.{SiteId}
use Rattle.slicer_ids.specs.declared.ids.Statement.{Statement}
use Rattle.value_tables.specs.Tables.{AddsValues}

abbrev Item : Type 0
Item = Statement × List SiteId

abbrev Before : Item → Item → Type 0
Before a b = statement_cmp (key_of_value a) (key_of_value b) ≡ Less

module _ (H : Statement → SiteId → Type 0) where
  pub adds_none : (xs : List Item) (P : Statement → Type 0) → ((t : Statement) (h : SiteId) → P t → H t h → ⊥) → AddsValues xs xs P H
  adds_none xs P never = record {
    more = [];
    is = sym (append-nil xs);
    order = λ i j d lt within. absurd (omega (arith, within));
    each = λ t hs c. absurd (omega (arith, c.1));
    whole = λ t h p has. absurd (never t h p has);
  }

  pub adds_one : (old new : List Item) (P : Statement → Type 0) (t : Statement) (hs : List SiteId) → ((u : Statement) → P u → u ≡ t) → P t → IsOrderedListOf SiteBefore hs (H t) → new ≡ old ++ (t, hs) ∷ [] → AddsValues old new P H
  adds_one old new P t hs only here listed e = record {
    more = (t, hs) ∷ [];
    is = e;
    order = λ i j d lt within. absurd (omega (arith, lt, within));
    each = λ u gs c. elim (head_or (t, hs) (u, gs) [] c) [
      | inl same ↦ subst (λ (x : Item). P x.0 × IsOrderedListOf SiteBefore x.1 (H x.0)) same (here, listed)
      | inr none ↦ absurd (omega (arith, none.1))
    ];
    whole = λ u h p has. (hs, subst (λ (v : Statement). Contains {X = Item} ((t, hs) ∷ []) (v, hs)) (sym (only u p)) (0, omega arith, refl));
  }

  pub adds_both : (old mid new : List Item) (P Q R : Statement → Type 0) → ((t : Statement) → R t → P t ⊎ Q t) → ((t : Statement) → P t ⊎ Q t → R t) → ((t u : Statement) → P t → Q u → statement_cmp t u ≡ Less) →
      AddsValues old mid P H → AddsValues mid new Q H → AddsValues old new R H
  adds_both old mid new P Q R to from below a b = record {
    more = a.more ++ b.more;
    is = b.is ∙ ap (λ (xs : List Item). xs ++ b.more) a.is ∙ append_assoc old a.more b.more;
    order = pairs_of Before (a.more ++ b.more) (λ i j x y lt ex ey. by_parts i j x y lt (joined a.more b.more i x ex) (joined a.more b.more j y ey));
    each = λ t hs c. by_part t hs (index_in (a.more ++ b.more) (t, hs) c);
    whole = λ t h r has. elim (to t r) [
      | inl p ↦ let w = a.whole t h p has in let i = index_in a.more (t, w.0) w.1 in (w.0, there_at (a.more ++ b.more) i.0 (t, w.0) (join_left a.more b.more i.0 (t, w.0) i.1))
      | inr q ↦ let w = b.whole t h q has in let i = index_in b.more (t, w.0) w.1 in (w.0, there_at (a.more ++ b.more) _ (t, w.0) (join_right a.more b.more i.0 _ (t, w.0) refl i.1))
    ];
  }
    where
      by_part : (t : Statement) (hs : List SiteId) → ((k : ℕ) × (slice_get (a.more ++ b.more) k ≡ Some (t, hs))) → R t × IsOrderedListOf SiteBefore hs (H t)
      by_part t hs (k, at) = elim (joined a.more b.more k (t, hs) at) [
        | inl h ↦ let w = a.each t hs (there_at a.more k (t, hs) h) in (from t (inl w.0), w.1)
        | inr g ↦ let w = b.each t hs (there_at b.more g.0 (t, hs) g.2) in (from t (inr w.0), w.1)
      ]

      by_parts : (i j : ℕ) (x y : Item) → i < j → (slice_get a.more i ≡ Some x) ⊎ ((k : ℕ) × (i ≡ length a.more + k) × (slice_get b.more k ≡ Some x)) →
          (slice_get a.more j ≡ Some y) ⊎ ((k : ℕ) × (j ≡ length a.more + k) × (slice_get b.more k ≡ Some y)) → Before x y
      by_parts i j x y lt (inl h) (inl g) = pair_at Before a.more a.order i j x y lt h g
      by_parts i j x y lt (inl h) (inr (k, e, g)) = below x.0 y.0 (a.each x.0 x.1 (there_at a.more i x h)).0 (b.each y.0 y.1 (there_at b.more k y g)).0
      by_parts i j x y lt (inr (k, e, h)) (inl g) = absurd (omega (arith, lt, e, slice_get_within a.more j y g))
      by_parts i j x y lt (inr (k, e, h)) (inr (m, f, g)) = pair_at Before b.more b.order k m x y (omega (arith, lt, e, f)) h g

  pub adds_same : (old new : List Item) (P Q : Statement → Type 0) → ((t : Statement) → P t → Q t) → ((t : Statement) → Q t → P t) → AddsValues old new P H → AddsValues old new Q H
  adds_same old new P Q to from a = record { more = a.more; is = a.is; order = a.order; each = λ t hs c. (to t (a.each t hs c).0, (a.each t hs c).1); whole = λ t h q has. a.whole t h (from t q) has }
