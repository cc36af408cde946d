-- Lists that are taken for sets, as they grow in loops and one call after another.
use Rattle.std.proofs.Common.{◌≡◌, ◌⊎◌, ◌↔◌, ℕ, ◌+◌, ◌<◌, ◌≤◌, List, [], ◌∷◌, ◌++◌, length, get_or, take, Contains, inl, inr, sym, ap, subst, ◌∙◌, arith}
use Rattle.std.proofs.lemmas.Bool.{cases_lt}
use Rattle.std.proofs.lemmas.List.{take_more, take_all}
use Rattle.std.proofs.lemmas.List.Elements.{Contains-append_left, Contains-push, Contains-push_cases}
use Rattle.worklists.specs.Growth.{FromOne}
use Rattle.worklists.proofs.Growing.{FromBelow}
use Rattle.mod_ref.specs.Gains.{Gains}

pub gains_none : {A : Type 0} (xs : List A) (P : A → Type 0) → ((x : A) → P x → ⊥) → Gains xs xs P
gains_none xs P never x = (λ c. inl c, λ h. elim h [ inl c ↦ c | inr p ↦ absurd (never x p) ])

-- one element at the end of a list with the same elements
pub gains_push : {A : Type 0} (old mid new : List A) (y : A) → ((x : A) → Contains mid x ↔ Contains old x) → new ≡ mid ++ y ∷ [] → Gains old new (λ x. x ≡ y)
gains_push {A} old mid new y same is x = (
  λ c. elim (Contains-push_cases mid y x (subst (λ (xs : List A). Contains xs x) is c)) [ inl m ↦ inl ((same x).0 m) | inr e ↦ inr (sym e) ],
  λ h. subst (λ (xs : List A). Contains xs x) (sym is) (elim h [
    | inl o ↦ Contains-append_left mid (y ∷ []) x ((same x).1 o)
    | inr e ↦ subst (λ z. Contains (mid ++ y ∷ []) z) (sym e) (Contains-push mid y)
  ]),
)

pub gains_then : {A : Type 0} (old mid new : List A) (P Q R : A → Type 0) → ((x : A) → R x ↔ (P x ⊎ Q x)) → Gains old mid P → Gains mid new Q → Gains old new R
gains_then old mid new P Q R is g h x = (
  λ c. elim ((h x).0 c) [ inl m ↦ elim ((g x).0 m) [ inl o ↦ inl o | inr p ↦ inr ((is x).1 (inl p)) ] | inr q ↦ inr ((is x).1 (inr q)) ],
  λ c. elim c [ inl o ↦ (h x).1 (inl ((g x).1 (inl o))) | inr r ↦ elim ((is x).0 r) [ inl p ↦ (h x).1 (inl ((g x).1 (inr p))) | inr q ↦ (h x).1 (inr q) ] ],
)

-- .. of the one and of the other
pub gains_both : {A : Type 0} (old mid new : List A) (P Q : A → Type 0) → Gains old mid P → Gains mid new Q → Gains old new (λ x. P x ⊎ Q x)
gains_both old mid new P Q g h = gains_then old mid new P Q (λ x. P x ⊎ Q x) (λ x. (λ r. r, λ r. r)) g h

pub gains_same : {A : Type 0} (old new : List A) (P Q : A → Type 0) → ((x : A) → P x ↔ Q x) → Gains old new P → Gains old new Q
gains_same old new P Q is g x = (
  λ c. elim ((g x).0 c) [ inl o ↦ inl o | inr p ↦ inr ((is x).0 p) ],
  λ c. elim c [ inl o ↦ (g x).1 (inl o) | inr q ↦ (g x).1 (inr ((is x).1 q)) ],
)

-- a loop over elements: at its start, one step, and at its end
pub gains_first : {A X : Type 0} (R : X → A → Type 0) (xs : List X) (old : List A) → Gains old old (FromOne R (take 0 xs))
gains_first R xs old = gains_none old (FromOne R (take 0 xs)) (λ x f. omega (arith, f.1.1))

pub gains_more : {A X : Type 0} (R : X → A → Type 0) (xs : List X) (i : ℕ) (d : X) (old mid new : List A) → i < length xs
    → Gains old mid (FromOne R (take i xs)) → Gains mid new (R (get_or xs i d)) → Gains old new (FromOne R (take (i + 1) xs))
gains_more {A} {X} R xs i d old mid new lt g h = subst (λ (ys : List X). Gains old new (FromOne R ys)) (sym (take_more xs i d lt)) (gains_then old mid new (FromOne R (take i xs)) (R (get_or xs i d)) (FromOne R (take i xs ++ get_or xs i d ∷ [])) (λ x. (to x, from x)) g h)
  where
    to : (x : A) → FromOne R (take i xs ++ get_or xs i d ∷ []) x → FromOne R (take i xs) x ⊎ R (get_or xs i d) x
    to x f = elim (Contains-push_cases (take i xs) (get_or xs i d) f.0 f.1) [ inl c ↦ inl (f.0, c, f.2) | inr is ↦ inr (subst (λ y. R y x) (sym is) f.2) ]

    from : (x : A) → FromOne R (take i xs) x ⊎ R (get_or xs i d) x → FromOne R (take i xs ++ get_or xs i d ∷ []) x
    from x (inl f) = (f.0, Contains-append_left (take i xs) (get_or xs i d ∷ []) f.0 f.1, f.2)
    from x (inr r) = (get_or xs i d, Contains-push (take i xs) (get_or xs i d), r)

pub gains_each : {A X : Type 0} (R : X → A → Type 0) (xs : List X) (i : ℕ) (x : X) (old mid new : List A) → i < length xs → x ≡ get_or xs i x
    → Gains old mid (FromOne R (take i xs)) → Gains mid new (R x) → Gains old new (FromOne R (take (i + 1) xs))
gains_each R xs i x old mid new lt e g h = gains_more R xs i x old mid new lt g (subst (λ y. Gains mid new (R y)) e h)

pub gains_all : {A X : Type 0} (R : X → A → Type 0) (xs : List X) (i : ℕ) (old new : List A) → length xs ≤ i → Gains old new (FromOne R (take i xs)) → Gains old new (FromOne R xs)
gains_all {A} {X} R xs i old new le g = subst (λ (ys : List X). Gains old new (FromOne R ys)) (take_all i xs le) g

-- a loop over numbers
pub gains_zero : {A : Type 0} (R : ℕ → A → Type 0) (old : List A) → Gains old old (FromBelow R 0)
gains_zero R old = gains_none old (FromBelow R 0) (λ x f. omega (arith, f.1))

pub gains_next : {A : Type 0} (R : ℕ → A → Type 0) (n : ℕ) (old mid new : List A) → Gains old mid (FromBelow R n) → Gains mid new (R n) → Gains old new (FromBelow R (n + 1))
gains_next {A} R n old mid new g h = gains_then old mid new (FromBelow R n) (R n) (FromBelow R (n + 1)) (λ x. (to x, from x)) g h
  where
    to : (x : A) → FromBelow R (n + 1) x → FromBelow R n x ⊎ R n x
    to x f = elim (cases_lt f.0 n) [ inl lt ↦ inl (f.0, lt, f.2) | inr le ↦ let e : f.0 ≡ n = omega (arith, f.1, le) in inr (subst (λ i. R i x) e f.2) ]

    from : (x : A) → FromBelow R n x ⊎ R n x → FromBelow R (n + 1) x
    from x (inl f) = (f.0, omega (arith, f.1), f.2)
    from x (inr r) = (n, omega arith, r)

-- a list that began empty
pub gained : {A : Type 0} (old new : List A) (P : A → Type 0) → old ≡ [] → Gains old new P → (x : A) → Contains new x ↔ P x
gained {A} old new P nil g x = (
  λ c. elim ((g x).0 c) [ inl o ↦ absurd (omega (arith, o.1, ap (λ (ys : List A). length ys) nil)) | inr p ↦ p ],
  λ p. (g x).1 (inr p),
)

pub gains_start : {A : Type 0} (R : ℕ → A → Type 0) (xs : List A) → xs ≡ [] → Gains [] xs (FromBelow R 0)
gains_start {A} R xs nil = subst (λ (ys : List A). Gains [] ys (FromBelow R 0)) (sym nil) (gains_zero R [])
