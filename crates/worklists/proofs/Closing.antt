-- Worklists that are closed under rules with one and with two premises, item by item.
use Rattle.std.proofs.Common.{◌≡◌, ℕ, ◌+◌, ◌<◌, ◌≤◌, List, [], ◌∷◌, ◌++◌, length, get_or, take, drop, Contains, ◌⊎◌, inl, inr, sym, ap, subst, ◌∙◌, length-append, arith}
use Rattle.std.proofs.lemmas.List.{take_more, take_all, take-append-le, take-append-drop}
use Rattle.std.proofs.lemmas.List.Elements.{Contains-append_left, Contains-push_cases, Contains-get_or}
use Rattle.worklists.specs.Growth.{Grows, FromOne, Meets}
use Rattle.worklists.proofs.Growing.{Grows-kept, Grows-more, Grows-then}

-- the invariant of a worklist: each item is good, and what follows from those before `next` is there
pub record Closing {A : Type 0} (Good : A → Type 0) (One : A → A → Type 0) (Two : A → A → A → Type 0) (next : ℕ) (pairs : List A) : Type 0 where
  pub each : (p : A) → Contains pairs p → Good p
  pub one : (p q : A) → Contains (take next pairs) p → One p q → Contains pairs q
  pub two : (p q r : A) → Contains (take next pairs) p → Contains (take next pairs) q → Two p q r → Contains pairs r
  pub within : next ≤ length pairs

Contains-take : {A : Type 0} (n : ℕ) (xs : List A) (p : A) → Contains (take n xs) p → Contains xs p
Contains-take {A} n xs p c = subst (λ (ys : List A). Contains ys p) (take-append-drop n xs) (Contains-append_left (take n xs) (drop n xs) p c)

module _ {A : Type 0} (Good : A → Type 0) (One : A → A → Type 0) (Two : A → A → A → Type 0)
    (by_one : (p q : A) → Good p → One p q → Good q) (by_two : (p q r : A) → Good p → Good q → Two p q r → Good r)
    (next : ℕ) (x : A) (old mid new : List A) (lt : next < length old) (is : x ≡ get_or old next x) where
  pub goes_on : Grows old mid (One x) → Grows mid new (FromOne (Meets Two x) (take (next + 1) mid)) → Closing Good One Two next old → Closing Good One Two (next + 1) new
  goes_on f m t = record {
    each = λ p c. elim (m.only p c) [ inl o ↦ each_mid p o | inr h ↦ each_met p h ];
    one = λ p q c h. elim (taken p c) [ inl o ↦ keep q (t.one p q o h) | inr e ↦ keep_mid q (f.all q (subst (λ r. One r q) e h)) ];
    two = λ p q r c k j. elim (taken p c) [
      | inl o ↦ elim (taken q k) [
        | inl u ↦ keep r (t.two p q r o u j)
        | inr e ↦ m.all r (p, taken_mid p c, inl (subst (λ y. Two p y r) e j))
      ]
      | inr e ↦ m.all r (q, taken_mid q k, inr (subst (λ y. Two y q r) e j))
    ];
    within = omega (arith, ap length m.front.1, ap length f.front.1, length-append old f.front.0, length-append mid m.front.0);
  }
    where
      keep_mid : (p : A) → Contains mid p → Contains new p
      keep_mid p c = Grows-kept mid new (FromOne (Meets Two x) (take (next + 1) mid)) m p c

      keep : (p : A) → Contains old p → Contains new p
      keep p c = keep_mid p (Grows-kept old mid (One x) f p c)

      first_mid : take (next + 1) mid ≡ take (next + 1) old
      first_mid = ap (take (next + 1)) f.front.1 ∙ take-append-le (next + 1) old f.front.0 (omega arith)

      first_new : take (next + 1) new ≡ take (next + 1) mid
      first_new = ap (take (next + 1)) m.front.1 ∙ take-append-le (next + 1) mid m.front.0 (omega (arith, ap length f.front.1, length-append old f.front.0))

      taken_mid : (p : A) → Contains (take (next + 1) new) p → Contains (take (next + 1) mid) p
      taken_mid p c = subst (λ (xs : List A). Contains xs p) first_new c

      taken : (p : A) → Contains (take (next + 1) new) p → Contains (take next old) p ⊎ (p ≡ x)
      taken p c = elim (Contains-push_cases (take next old) x p (subst (λ (xs : List A). Contains xs p) (first_new ∙ first_mid ∙ take_more old next x lt ∙ ap (λ y. take next old ++ y ∷ []) (sym is)) c)) [ inl o ↦ inl o | inr e ↦ inr (sym e) ]

      good : Good x
      good = subst Good (sym is) (t.each (get_or old next x) (Contains-get_or old next x lt))

      each_mid : (p : A) → Contains mid p → Good p
      each_mid p c = elim (f.only p c) [ inl o ↦ t.each p o | inr h ↦ by_one x p good h ]

      each_met : (p : A) → FromOne (Meets Two x) (take (next + 1) mid) p → Good p
      each_met p h = let other = each_mid h.0 (Contains-take (next + 1) mid h.0 h.1) in elim h.2 [ inl j ↦ by_two h.0 x p other good j | inr j ↦ by_two x h.0 p good other j ]

-- an item of a list of which all was taken up
pub taken_all : {A : Type 0} (next : ℕ) (pairs : List A) → length pairs ≤ next → (p : A) → Contains pairs p → Contains (take next pairs) p
taken_all next pairs le p c = rw (take_all next pairs le) c

pub meet_more : {A : Type 0} (Two : A → A → A → Type 0) (one x : A) (xs : List A) (k : ℕ) (old mid m new : List A) → k < length xs → x ≡ get_or xs k x
    → Grows old mid (FromOne (Meets Two one) (take k xs)) → Grows mid m (Two x one) → Grows m new (Two one x) → Grows old new (FromOne (Meets Two one) (take (k + 1) xs))
meet_more Two one x xs k old mid m new lt e h a b =
    Grows-more (Meets Two one) xs k x old mid new lt h (subst (λ y. Grows mid new (Meets Two one y)) e (Grows-then mid m new (Two x one) (Two one x) (Meets Two one x) (λ p h. h) (λ p h. h) a b))

-- More rules with one premise. What they give from the items before `next` was added; from there on the work goes on as before.
pub widened : {A : Type 0} (Good Good' : A → Type 0) (One One' Extra : A → A → Type 0) (Two : A → A → A → Type 0) (next : ℕ) (old new : List A)
    → ((p : A) → Good p → Good' p) → ((p q : A) → Good' p → One' p q → Good' q)
    → ((p q : A) → One' p q → One p q ⊎ Extra p q) → ((p q : A) → Extra p q → One' p q)
    → Grows old new (FromOne Extra (take next old)) → Closing Good One Two next old → Closing Good' One' Two next new
widened {A} Good Good' One One' Extra Two next old new more by_one split is_one g t = record {
  each = λ p c. elim (g.only p c) [ inl o ↦ more p (t.each p o) | inr f ↦ by_one f.0 p (more f.0 (t.each f.0 (Contains-take next old f.0 f.1))) (is_one f.0 p f.2) ];
  one = λ p q c h. elim (split p q h) [ inl o ↦ keep q (t.one p q (first p c) o) | inr x ↦ g.all q (p, first p c, x) ];
  two = λ p q r c d h. keep r (t.two p q r (first p c) (first q d) h);
  within = omega (arith, t.within, ap length g.front.1, length-append old g.front.0);
}
  where
    keep : (p : A) → Contains old p → Contains new p
    keep p c = Grows-kept old new (FromOne Extra (take next old)) g p c

    first : (p : A) → Contains (take next new) p → Contains (take next old) p
    first p c = subst (λ (xs : List A). Contains xs p) (ap (take next) g.front.1 ∙ take-append-le next old g.front.0 t.within) c
