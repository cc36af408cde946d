-- Lists that are made element by element, and tables of rows.
use Rattle.std.proofs.Common.{◌≡◌, ◌≢◌, ◌↔◌, ◌<◌, ◌+◌, ℕ, zero, suc, Bool, true, false, List, [], ◌∷◌, ◌++◌, Contains, Decides, map, take, get_or, length, cond, inl, inr, refl, sym, ap, subst, ◌∙◌, arith}
use Rattle.std.specs.List.{filter}
use Rattle.std.specs.Global.{Vec}
use Rattle.std.proofs.lemmas.List.{take_more, map-append}
use Rattle.slicer_ids.proofs.Ordered.{Contains-cons_cases}
use Rattle.mod_ref.specs.Rows.{row_of}

pub map_more : {A B : Type 0} (f : A → B) (xs : List A) (i : ℕ) (d : A) (ys : List B) → i < length xs → ys ≡ map f (take i xs) → ys ++ f (get_or xs i d) ∷ [] ≡ map f (take (i + 1) xs)
map_more {A} {B} f xs i d ys lt e = ap (λ (zs : List B). zs ++ f (get_or xs i d) ∷ []) e ∙ sym (map-append f (take i xs) (get_or xs i d ∷ [])) ∙ sym (ap (map f) (take_more xs i d lt))

-- ---- filters
at_head : {A : Type 0} (x : A) (xs : List A) → Contains (x ∷ xs) x
at_head x xs = (0, omega arith, refl)

in_tail : {A : Type 0} (x z : A) (xs : List A) → Contains xs z → Contains (x ∷ xs) z
in_tail x z xs c = (suc c.0, omega (arith, c.1), c.2)

module _ {A : Type 0} (test : A → Bool) where
  from_head : (x : A) (xs ys : List A) (z : A) (b : Bool) → test x ≡ b → (Contains ys z → Contains xs z × (test z ≡ true)) → Contains (cond b (x ∷ ys) ys) z → Contains (x ∷ xs) z × (test z ≡ true)
  from_head x xs ys z true e rest h = elim (Contains-cons_cases x z ys h) [
    | inl is ↦ (subst (Contains (x ∷ xs)) is (at_head x xs), subst (λ y. test y ≡ true) is e)
    | inr t ↦ let r = rest t in (in_tail x z xs r.0, r.1)
  ]
  from_head x xs ys z false e rest h = let r = rest h in (in_tail x z xs r.0, r.1)

  from_filter : (xs : List A) (z : A) → Contains (filter test xs) z → Contains xs z × (test z ≡ true)
  from_filter [] z c = absurd (omega (arith, c.1))
  from_filter (x ∷ xs) z c = from_head x xs (filter test xs) z (test x) refl (λ h. from_filter xs z h) c

  into_head : (x : A) (xs ys : List A) (z : A) (b : Bool) → test x ≡ b → test z ≡ true → (Contains xs z → Contains ys z) → Contains (x ∷ xs) z → Contains (cond b (x ∷ ys) ys) z
  into_head x xs ys z true e t rest c = elim (Contains-cons_cases x z xs c) [
    | inl is ↦ subst (Contains (x ∷ ys)) is (at_head x ys)
    | inr h ↦ in_tail x z ys (rest h)
  ]
  into_head x xs ys z false e t rest c = elim (Contains-cons_cases x z xs c) [
    | inl is ↦ absurd (cc (sym e ∙ ap test is ∙ t))
    | inr h ↦ rest h
  ]

  into_filter : (xs : List A) (z : A) → test z ≡ true → Contains xs z → Contains (filter test xs) z
  into_filter [] z t c = absurd (omega (arith, c.1))
  into_filter (x ∷ xs) z t c = into_head x xs (filter test xs) z (test x) refl t (λ h. into_filter xs z t h) c

pub filter_is : {A : Type 0} (test : A → Bool) (P : A → Type 0) → ((x : A) → Decides (test x) (P x)) → (xs ys : List A) → ys ≡ filter test xs → (x : A) → Contains ys x ↔ (Contains xs x × P x)
filter_is {A} test P d xs ys e x = (
  λ c. let r = from_filter test xs x (subst (λ (zs : List A). Contains zs x) e c) in (r.0, (d x).0 r.1),
  λ (c, p). subst (λ (zs : List A). Contains zs x) (sym e) (into_filter test xs x ((d x).1 p) c),
)

-- ---- what a map of a list has
mapped_to : {A B : Type 0} (f : A → B) (xs : List A) (y : B) → Contains (map f xs) y → (x : A) × Contains xs x × (f x ≡ y)
mapped_to f [] y c = absurd (omega (arith, c.1))
mapped_to f (x ∷ xs) y c = elim (Contains-cons_cases (f x) y (map f xs) c) [
  | inl e ↦ (x, at_head x xs, e)
  | inr h ↦ let r = mapped_to f xs y h in (r.0, in_tail x r.0 xs r.1, r.2)
]

mapped_from : {A B : Type 0} (f : A → B) (xs : List A) (x : A) → Contains xs x → Contains (map f xs) (f x)
mapped_from f [] x c = absurd (omega (arith, c.1))
mapped_from f (z ∷ xs) x c = elim (Contains-cons_cases z x xs c) [
  | inl e ↦ subst (λ w. Contains (f z ∷ map f xs) (f w)) e (at_head (f z) (map f xs))
  | inr h ↦ in_tail (f z) (f x) (map f xs) (mapped_from f xs x h)
]

pub mapped : {A B : Type 0} (f : A → B) (xs : List A) (ys : List B) → ys ≡ map f xs → (y : B) → Contains ys y ↔ ((x : A) × Contains xs x × (f x ≡ y))
mapped {A} {B} f xs ys e y = (
  λ c. mapped_to f xs y (subst (λ (zs : List B). Contains zs y) e c),
  λ (x, c, is). subst (λ (zs : List B). Contains zs y) (sym e) (subst (Contains (map f xs)) is (mapped_from f xs x c)),
)
