-- A finite relation without cycles ends: what holds of a number where it holds of all numbers that come next holds of all.
use Rattle.std.proofs.Common.{◌≢◌, ◌<◌, ◌≤◌, ◌+◌, ℕ, zero, suc, List, [], ◌∷◌, length, AllPairs, Contains, get_or, inl, inr, refl, sym, subst, arith}
use Rattle.std.proofs.lemmas.Bool.Decides.{Decides-eqb}
use Rattle.std.proofs.lemmas.List.Kept.{AllPairs-cons}
use Rattle.std.proofs.lemmas.List.Elements.{Contains-get_or}
use Rattle.std.proofs.lemmas.Map.Made.{IsDistinct-from_AllPairs, is_member-Decides}
use Rattle.std.proofs.lemmas.Map.Steps.{length-le_from_distinct_below}
use Rattle.slicer_ids.specs.Walks.{LeadsOn, stay, more}
use Rattle.slicer_ids.proofs.WalkForms.{by_cases, by_list}
use Rattle.slicer_ids.proofs.Ordered.{Contains-cons_cases}

-- distinct numbers below n are at most n
no_more : (xs : List ℕ) (n : ℕ) → AllPairs (λ x y. x ≢ y) xs → ((x : ℕ) → Contains xs x → x < n) → length xs ≤ n
no_more xs n distinct below = length-le_from_distinct_below xs n (IsDistinct-from_AllPairs Decides-eqb xs distinct) (λ q e. below q ((is_member-Decides Decides-eqb xs q).0 e))

module _ (R : ℕ → ℕ → Type 0) (n : ℕ) (acyclic : (a : ℕ) → LeadsOn R a a → ⊥) (inside : (a b : ℕ) → R a b → b < n) (P : ℕ → Type 0) (step : (a : ℕ) → a < n → ((b : ℕ) → R a b → P b) → P a) where
  one_on : (a b c : ℕ) → LeadsOn R a b → R b c → LeadsOn R a c
  one_on a b c (x, r, w) s = (x, r, by_list R x (more (by_cases R x x b w.0 stay w.1) s))

  climb : (fuel : ℕ) (seen : List ℕ) (a : ℕ) → n ≤ fuel + length seen → ((s : ℕ) → Contains seen s → LeadsOn R s a) → AllPairs (λ x y. x ≢ y) seen → ((s : ℕ) → Contains seen s → s < n) → a < n → P a
  climb zero seen a enough leads distinct below lt = absurd (omega (arith, enough, no_more (a ∷ seen) n distinct_on below_on))
    where
      distinct_on : AllPairs (λ x y. x ≢ y) (a ∷ seen)
      distinct_on = AllPairs-cons (λ x y. x ≢ y) a seen (λ k d l e. acyclic a (subst (λ x. LeadsOn R x a) (sym e) (leads (get_or seen k d) (Contains-get_or seen k d l)))) distinct

      below_on : (s : ℕ) → Contains (a ∷ seen) s → s < n
      below_on s h = elim (Contains-cons_cases a s seen h) [ inl e ↦ subst (λ x. x < n) e lt | inr c ↦ below s c ]
  climb (suc fuel) seen a enough leads distinct below lt = step a lt (λ b r. climb fuel (a ∷ seen) b (omega (arith, enough)) (leads_on b r) distinct_on below_on (inside a b r))
    where
      distinct_on : AllPairs (λ x y. x ≢ y) (a ∷ seen)
      distinct_on = AllPairs-cons (λ x y. x ≢ y) a seen (λ k d l e. acyclic a (subst (λ x. LeadsOn R x a) (sym e) (leads (get_or seen k d) (Contains-get_or seen k d l)))) distinct

      below_on : (s : ℕ) → Contains (a ∷ seen) s → s < n
      below_on s h = elim (Contains-cons_cases a s seen h) [ inl e ↦ subst (λ x. x < n) e lt | inr c ↦ below s c ]

      leads_on : (b : ℕ) → R a b → (s : ℕ) → Contains (a ∷ seen) s → LeadsOn R s b
      leads_on b r s h = elim (Contains-cons_cases a s seen h) [
        | inl e ↦ subst (λ x. LeadsOn R x b) e (b, r, ([], refl))
        | inr c ↦ one_on s a b (leads s c) r
      ]

  pub ends : (a : ℕ) → a < n → P a
  ends a lt = climb n [] a (omega arith) (λ s h. absurd (omega (arith, h.1))) (λ i j d l m. absurd (omega arith)) (λ s h. absurd (omega (arith, h.1))) lt
