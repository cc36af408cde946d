-- A worklist that is closed under rules with one premise, item by item.
use Rattle.std.proofs.Common.{◌≡◌, ℕ, ◌+◌, ◌<◌, ◌≤◌, List, [], ◌∷◌, ◌++◌, length, get_or, take, Contains, ◌⊎◌, inl, inr, sym, ap, subst, ◌∙◌, length-append, arith}
use Rattle.std.proofs.lemmas.List.{take_more, take_all, take-append-le}
use Rattle.std.proofs.lemmas.List.Elements.{Contains-push_cases, Contains-get_or}
use Rattle.worklists.specs.Growth.{Grows}
use Rattle.worklists.proofs.Growing.{Grows-kept}

-- each item is good; what follows from those before `next` is there
pub record Closing {A : Type 0} (Good : A → Type 0) (One : A → A → Type 0) (next : ℕ) (items : List A) : Type 0 where
  pub each : (p : A) → Contains items p → Good p
  pub one : (p q : A) → Contains (take next items) p → One p q → Contains items q
  pub within : next ≤ length items

-- at the start nothing was taken up
pub begins : {A : Type 0} (Good : A → Type 0) (One : A → A → Type 0) (items : List A) → ((p : A) → Contains items p → Good p) → Closing Good One 0 items
begins Good One items good = record { each = good; one = λ p q c h. absurd (omega (arith, c.1)); within = omega arith }

module _ {A : Type 0} (Good : A → Type 0) (One : A → A → Type 0) (by_one : (p q : A) → Good p → One p q → Good q)
    (next : ℕ) (x : A) (old new : List A) (lt : next < length old) (is : x ≡ get_or old next x) where
  pub goes_on : Grows old new (One x) → Closing Good One next old → Closing Good One (next + 1) new
  goes_on f t = record {
    each = λ p c. elim (f.only p c) [ inl o ↦ t.each p o | inr h ↦ by_one x p good h ];
    one = λ p q c h. elim (taken p c) [ inl o ↦ keep q (t.one p q o h) | inr e ↦ f.all q (subst (λ r. One r q) e h) ];
    within = omega (arith, ap length f.front.1, length-append old f.front.0);
  }
    where
      keep : (p : A) → Contains old p → Contains new p
      keep p c = Grows-kept old new (One x) f p c

      first_new : take (next + 1) new ≡ take (next + 1) old
      first_new = ap (take (next + 1)) f.front.1 ∙ take-append-le (next + 1) old f.front.0 (omega arith)

      taken : (p : A) → Contains (take (next + 1) new) p → Contains (take next old) p ⊎ (p ≡ x)
      taken p c = elim (Contains-push_cases (take next old) x p (subst (λ (xs : List A). Contains xs p) (first_new ∙ take_more old next x lt ∙ ap (λ y. take next old ++ y ∷ []) (sym is)) c)) [ inl o ↦ inl o | inr e ↦ inr (sym e) ]

      good : Good x
      good = subst Good (sym is) (t.each (get_or old next x) (Contains-get_or old next x lt))

-- at the end all was taken up
pub taken_all : {A : Type 0} (next : ℕ) (items : List A) → length items ≤ next → (p : A) → Contains items p → Contains (take next items) p
taken_all next items le p c = rw (take_all next items le) c
