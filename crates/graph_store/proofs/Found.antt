-- Facts that a search through all numbers finds, where they hold: of these one is had from the mere fact that there is one.
use Rattle.std.proofs.Common.{◌≡◌, ◌<◌, ◌⊎◌, ℕ, zero, suc, List, [], ◌∷◌, Bool, true, false, ◌||◌, ◌&&◌, refl, sym, ap, ◌∙◌, subst, inl, inr, arith, true≢false, Decides}
use Rattle.std.specs.Prelude.{Contains, slice_get, Some}
use Rattle.std.proofs.lemmas.Option.{slice_get_within, slice_get-get_or, get_or_from_slice_get, same_Some, none-some}
use Rattle.std.proofs.Math.Logic.{∥∥₁_elim}
use Rattle.std.proofs.Props.{props}
use Rattle.std.proofs.lemmas.Bool.{cases_lt, cases_Bool, and_from, and_parts, or_cases}
use mathlib.Core.HLevel.{Σ_prop_path, Π_prop, ×_prop}

-- the least number that passes a test
Least : (ℕ → Bool) → Type 0
Least t = (n : ℕ) × ((t n ≡ true) × ((k : ℕ) → k < n → t k ≡ false))

is_prop : (b c : Bool) → IsProp (b ≡ c)
is_prop b c = let h : IsProp (b ≡ c) = (hlevel props) in h

least_is_one : (t : ℕ → Bool) → IsProp (Least t)
unfolding Least
least_is_one t u v =
    Σ_prop_path (λ n. ×_prop (is_prop (t n) true) (Π_prop (λ k. Π_prop (λ _. is_prop (t k) false)))) (elim (cases_lt u.0 v.0) [
      | inl lt ↦ absurd (true≢false (sym u.1.0 ∙ v.1.1 u.0 lt))
      | inr ge ↦ elim (cases_lt v.0 u.0) [
        | inl lt ↦ absurd (true≢false (sym v.1.0 ∙ u.1.1 v.0 lt))
        | inr le ↦ omega (arith, ge, le)
      ]
    ])

below : (t : ℕ → Bool) (n : ℕ) → ((k : ℕ) → k < n → t k ≡ false) ⊎ Least t
unfolding Least
below t zero = inl (λ k lt. absurd (omega arith))
below t (suc n) =
    elim (below t n) [
      | inr found ↦ inr found
      | inl none ↦ elim (cases_Bool (t n)) [
        | inl passed ↦ inr (n, (passed, none))
        | inr failed ↦ inl (λ k lt. elim (cases_lt k n) [ inl before ↦ none k before | inr past ↦ let same : k ≡ n = omega arith in ap t same ∙ failed ])
      ]
    ]

least : (t : ℕ → Bool) (n : ℕ) → t n ≡ true → Least t
unfolding Least
least t n passed = elim (below t (suc n)) [ inl none ↦ absurd (true≢false (sym passed ∙ none n (omega arith))) | inr found ↦ found ]

pub record Found (A : Type 0) : Type 0 where
  pub test : ℕ → Bool
  pub sound : (n : ℕ) → test n ≡ true → A
  pub whole : A → (n : ℕ) × (test n ≡ true)

-- one is had
pub had : {A : Type 0} → Found A → ∥ A ∥₁ → A
unfolding Least
had f a = let l = ∥∥₁_elim a (least_is_one f.test) (λ x. let w = f.whole x in least f.test w.0 w.1) in f.sound l.0 l.1.0

pub decided : {A : Type 0} (b : Bool) → Decides b A → Found A
decided b d = record { test = λ n. b; sound = λ n e. d.0 e; whole = λ x. (0, d.1 x) }

or_left : (b c : Bool) → b ≡ true → b || c ≡ true
or_left b c e = rw e refl

or_right : (b c : Bool) → c ≡ true → b || c ≡ true
or_right true c e = refl
or_right false c e = e

pub one_of : {A B : Type 0} → Found A → Found B → Found (A ⊎ B)
one_of f g = record {
  test = λ n. f.test n || g.test n;
  sound = λ n e. elim (or_cases (f.test n) (g.test n) e) [ inl a ↦ inl (f.sound n a) | inr b ↦ inr (g.sound n b) ];
  whole = λ x. elim x [
    | inl a ↦ let w = f.whole a in (w.0, or_left (f.test w.0) (g.test w.0) w.1)
    | inr b ↦ let w = g.whole b in (w.0, or_right (f.test w.0) (g.test w.0) w.1)
  ];
}

pub with_test : {A B : Type 0} (b : Bool) → Decides b A → Found B → Found (A × B)
with_test b d f = record {
  test = λ n. b && f.test n;
  sound = λ n e. let p = and_parts b (f.test n) e in (d.0 p.0, f.sound n p.1);
  whole = λ x. let w = f.whole x.1 in (w.0, and_from b (f.test w.0) (d.1 x.0) w.1);
}

pub same_facts : {A B : Type 0} → (A → B) → (B → A) → Found A → Found B
same_facts to from f = record { test = f.test; sound = λ n e. to (f.sound n e); whole = λ x. f.whole (from x) }

-- one of a list passes
pub some_of : {X : Type 0} → (X → Bool) → List X → Bool
some_of p [] = false
some_of p (x ∷ xs) = p x || some_of p xs

pub some_from : {X : Type 0} (p : X → Bool) (xs : List X) (k : ℕ) (x : X) → slice_get xs k ≡ Some x → p x ≡ true → some_of p xs ≡ true
unfolding some_of
some_from p [] k x at e = absurd (none-some x at)
some_from p (y ∷ xs) zero x at e = or_left (p y) (some_of p xs) (ap p (same_Some y x at) ∙ e)
some_from p (y ∷ xs) (suc k) x at e = or_right (p y) (some_of p xs) (some_from p xs k x at e)

pub some_gives : {X : Type 0} (p : X → Bool) (xs : List X) → some_of p xs ≡ true → (x : X) × (k : ℕ) × (slice_get xs k ≡ Some x) × (p x ≡ true)
unfolding some_of
some_gives p [] e = absurd (true≢false (sym e))
some_gives p (y ∷ xs) e = elim (or_cases (p y) (some_of p xs) e) [
  | inl here ↦ (y, 0, refl, here)
  | inr more ↦ let r = some_gives p xs more in (r.0, suc r.1, r.2, r.3)
]

-- contained at a place, and so contained
pub place_of : {X : Type 0} (xs : List X) (x : X) → Contains xs x → (k : ℕ) × (slice_get xs k ≡ Some x)
place_of xs x c = (c.0, slice_get-get_or xs c.0 x c.1 ∙ ap Some c.2)

pub contained : {X : Type 0} (xs : List X) (x : X) (k : ℕ) → slice_get xs k ≡ Some x → Contains xs x
contained xs x k at = (k, slice_get_within xs k x at, get_or_from_slice_get xs k x x at)

pub among : {X : Type 0} (xs : List X) (B : X → Type 0) → ((x : X) → Found (B x)) → Found ((x : X) × (Contains xs x × B x))
among xs B f = record {
  test = λ n. some_of (λ x. (f x).test n) xs;
  sound = λ n e. let r = some_gives (λ x. (f x).test n) xs e in (r.0, (contained xs r.0 r.1 r.2, (f r.0).sound n r.3));
  whole = λ x. let w = (f x.0).whole x.1.1 in let p = place_of xs x.0 x.1.0 in (w.0, some_from (λ y. (f y).test w.0) xs p.0 x.0 p.1 w.1);
}
