-- How the list of a worklist grows.
use Rattle.std.proofs.Common.{◌≡◌, ℕ, ◌+◌, ◌<◌, List, [], ◌∷◌, ◌++◌, length, get_or, take, Contains, ◌⊎◌, inl, inr, sym, ap, subst, ◌∙◌, append_assoc, ◌≤◌, arith}
use Rattle.std.proofs.lemmas.Bool.{cases_lt}
use Rattle.std.proofs.lemmas.List.{append-nil, take_more, take_all}
use Rattle.std.proofs.Math.ListN.{get_or-append}
use Rattle.std.proofs.lemmas.List.Elements.{Contains-append_left, Contains-push, Contains-push_cases}
use Rattle.worklists.specs.Growth.{Grows, FromOne}

pub Grows-none : {A : Type 0} (xs : List A) (P : A → Type 0) → ((p : A) → P p → ⊥) → Grows xs xs P
Grows-none xs P never = record { front = ([], sym (append-nil xs)); all = λ p h. absurd (never p h); only = λ p c. inl c }

kept : {A : Type 0} (old new : List A) (more : List A) → new ≡ old ++ more → (p : A) → Contains old p → Contains new p
kept {A} old new more e p c = subst (λ (xs : List A). Contains xs p) (sym e) (Contains-append_left old more p c)

pub Grows-kept : {A : Type 0} (old new : List A) (P : A → Type 0) → Grows old new P → (p : A) → Contains old p → Contains new p
Grows-kept old new P g p c = kept old new g.front.0 g.front.1 p c

pub Grows-then : {A : Type 0} (old mid new : List A) (P Q R : A → Type 0) → ((p : A) → R p → P p ⊎ Q p) → ((p : A) → P p ⊎ Q p → R p) → Grows old mid P → Grows mid new Q → Grows old new R
Grows-then {A} old mid new P Q R to from g h = record {
  front = (g.front.0 ++ h.front.0, h.front.1 ∙ ap (λ (xs : List A). xs ++ h.front.0) g.front.1 ∙ append_assoc old g.front.0 h.front.0);
  all = λ p r. elim (to p r) [ inl a ↦ Grows-kept mid new Q h p (g.all p a) | inr b ↦ h.all p b ];
  only = λ p c. elim (h.only p c) [ inl m ↦ elim (g.only p m) [ inl o ↦ inl o | inr a ↦ inr (from p (inl a)) ] | inr b ↦ inr (from p (inr b)) ];
}

-- a loop's step: one more element
pub Grows-more : {A : Type 0} {X : Type 0} (R : X → A → Type 0) (xs : List X) (i : ℕ) (d : X) (old mid new : List A) → i < length xs
    → Grows old mid (FromOne R (take i xs)) → Grows mid new (R (get_or xs i d)) → Grows old new (FromOne R (take (i + 1) xs))
Grows-more {A} R xs i d old mid new lt g h = subst (λ ys. Grows old new (FromOne R ys)) (sym (take_more xs i d lt)) (Grows-then old mid new (FromOne R (take i xs)) (R (get_or xs i d)) (FromOne R (take i xs ++ get_or xs i d ∷ [])) to from g h)
  where
    to : (p : A) → FromOne R (take i xs ++ get_or xs i d ∷ []) p → FromOne R (take i xs) p ⊎ R (get_or xs i d) p
    to p f = elim (Contains-push_cases (take i xs) (get_or xs i d) f.0 f.1) [ inl c ↦ inl (f.0, c, f.2) | inr is ↦ inr (subst (λ y. R y p) (sym is) f.2) ]

    from : (p : A) → FromOne R (take i xs) p ⊎ R (get_or xs i d) p → FromOne R (take i xs ++ get_or xs i d ∷ []) p
    from p (inl f) = (f.0, Contains-append_left (take i xs) (get_or xs i d ∷ []) f.0 f.1, f.2)
    from p (inr r) = (get_or xs i d, Contains-push (take i xs) (get_or xs i d), r)

pub Grows-same : {A : Type 0} (old new : List A) (P Q : A → Type 0) → ((p : A) → P p → Q p) → ((p : A) → Q p → P p) → Grows old new P → Grows old new Q
Grows-same old new P Q to from g = record { front = g.front; all = λ p q. g.all p (from p q); only = λ p c. elim (g.only p c) [ inl o ↦ inl o | inr a ↦ inr (to p a) ] }

-- an item before the new ones
pub at_front : {A : Type 0} (old new : List A) (P : A → Type 0) (k : ℕ) (x : A) → Grows old new P → k < length old → x ≡ get_or new k x → x ≡ get_or old k x
at_front {A} old new P k x g lt e = e ∙ ap (λ (xs : List A). get_or xs k x) g.front.1 ∙ get_or-append old g.front.0 x k lt

-- R leads from a number below n to the item
abbrev pub FromBelow : {A : Type 0} → (ℕ → A → Type 0) → ℕ → A → Type 0
FromBelow R n x = (i : ℕ) × (i < n) × R i x

-- a step of a loop over numbers
pub Grows-next : {A : Type 0} (R : ℕ → A → Type 0) (n : ℕ) (old mid new : List A) → Grows old mid (FromBelow R n) → Grows mid new (R n) → Grows old new (FromBelow R (n + 1))
Grows-next {A} R n old mid new g h = Grows-then old mid new (FromBelow R n) (R n) (FromBelow R (n + 1)) to from g h
  where
    to : (x : A) → FromBelow R (n + 1) x → FromBelow R n x ⊎ R n x
    to x f = elim (cases_lt f.0 n) [ inl lt ↦ inl (f.0, lt, f.2) | inr le ↦ let e : f.0 ≡ n = omega arith in inr (subst (λ i. R i x) e f.2) ]

    from : (x : A) → FromBelow R n x ⊎ R n x → FromBelow R (n + 1) x
    from x (inl f) = (f.0, omega arith, f.2)
    from x (inr r) = (n, omega arith, r)

-- a step of a loop over elements
pub Grows-each : {A : Type 0} {X : Type 0} (R : X → A → Type 0) (xs : List X) (i : ℕ) (x : X) (old mid new : List A) → i < length xs → x ≡ get_or xs i x
    → Grows old mid (FromOne R (take i xs)) → Grows mid new (R x) → Grows old new (FromOne R (take (i + 1) xs))
Grows-each R xs i x old mid new lt e g h = Grows-more R xs i x old mid new lt g (subst (λ y. Grows mid new (R y)) e h)

-- a list that grew from nothing by the whole of another
pub of_whole : {A X : Type 0} (R : X → A → Type 0) (xs : List X) (i : ℕ) (old new : List A) → old ≡ [] → length xs ≤ i → Grows old new (FromOne R (take i xs))
    → (p : A) → (Contains new p → FromOne R xs p) × (FromOne R xs p → Contains new p)
of_whole {A} {X} R xs i old new none le g p =
    let all = take_all i xs le in (
      λ c. elim (g.only p c) [
        | inl o ↦ let no : Contains [] p = subst (λ (ys : List A). Contains ys p) none o in absurd (omega (arith, no.1))
        | inr f ↦ subst (λ (ys : List X). FromOne R ys p) all f
      ],
      λ f. g.all p (subst (λ (ys : List X). FromOne R ys p) (sym all) f),
    )
