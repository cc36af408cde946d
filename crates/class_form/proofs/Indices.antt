-- Elements of lists by index, and lists that are in one order.
use Rattle.std.proofs.Common.{◌≡◌, ◌<◌, ◌≤◌, ◌+◌, ℕ, zero, suc, List, [], ◌∷◌, length, get_or, All, AllPairs, Contains, Some, ◌⊎◌, inl, inr, refl, sym, ap, subst, ◌∙◌, arith}
use Rattle.std.specs.Prelude.{slice_get}
use Rattle.std.proofs.lemmas.Option.{slice_get_within, slice_get-get_or, get_or_from_slice_get}
use Rattle.std.proofs.lemmas.List.Elements.{All-contains}
use Rattle.slicer_ids.specs.Sets.{IsOrderedListOf}

-- an element and its index
pub index_in : {A : Type 0} (xs : List A) (x : A) → Contains xs x → (k : ℕ) × (slice_get xs k ≡ Some x)
index_in {A} xs x c = (c.0, slice_get-get_or xs c.0 x c.1 ∙ ap (λ (y : A). Some y) c.2)

pub there_at : {A : Type 0} (xs : List A) (k : ℕ) (x : A) → slice_get xs k ≡ Some x → Contains xs x
there_at xs k x e = (k, slice_get_within xs k x e, get_or_from_slice_get xs k x x e)

pub read_at : {A : Type 0} (xs : List A) (k : ℕ) (x : A) → k < length xs → x ≡ get_or xs k x → slice_get xs k ≡ Some x
read_at {A} xs k x lt e = slice_get-get_or xs k x lt ∙ ap (λ (y : A). Some y) (sym e)

pub index_at : {A : Type 0} (xs : List A) (k : ℕ) → k < length xs → (x : A) × (slice_get xs k ≡ Some x)
index_at [] k w = absurd (omega arith)
index_at (x ∷ xs) k w = let y = get_or (x ∷ xs) k x in (y, slice_get-get_or (x ∷ xs) k x w)

pub head_or : {A : Type 0} (x z : A) (xs : List A) → Contains (x ∷ xs) z → (x ≡ z) ⊎ Contains xs z
head_or x z xs (zero, lt, e) = inl e
head_or x z xs (suc k, lt, e) = inr (k, omega arith, e)

first_before : {A : Type 0} (R : A → A → Type 0) (x z : A) (xs : List A) → AllPairs R (x ∷ xs) → Contains xs z → R x z
first_before R x z xs order (k, lt, e) = subst (R x) e (order 0 (suc k) z (omega arith) (omega arith))

rest_order : {A : Type 0} (R : A → A → Type 0) (x : A) (xs : List A) → AllPairs R (x ∷ xs) → AllPairs R xs
rest_order R x xs order i j d lt within = order (suc i) (suc j) d (omega arith) (omega arith)

pub later : {A : Type 0} (x z : A) (xs : List A) → Contains xs z → Contains (x ∷ xs) z
later x z xs (k, lt, e) = (suc k, omega arith, e)

-- two lists in one order with the same elements are one
pub same_list : {A : Type 0} (R : A → A → Type 0) → ((x y : A) → R x y → R y x → ⊥) → (xs ys : List A) → AllPairs R xs → AllPairs R ys
    → ((x : A) → Contains xs x → Contains ys x) → ((x : A) → Contains ys x → Contains xs x) → xs ≡ ys
same_list R asym [] [] p q to from = refl
same_list R asym [] (y ∷ ys) p q to from = absurd (omega (arith, (from y (0, omega arith, refl)).1))
same_list R asym (x ∷ xs) [] p q to from = absurd (omega (arith, (to x (0, omega arith, refl)).1))
same_list {A} R asym (x ∷ xs) (y ∷ ys) p q to from =
    let e = heads x y xs ys (λ a b. asym a b) p q (head_or y x ys (to x (0, omega arith, refl))) (head_or x y xs (from y (0, omega arith, refl))) in
    ap (λ (z : A). z ∷ xs) e ∙ ap (λ (zs : List A). y ∷ zs) (same_list R asym xs ys (rest_order R x xs p) (rest_order R y ys q)
    (λ z c. rest_of y z ys (λ same. let r : R x x = subst (R x) (sym same ∙ sym e) (first_before R x z xs p c) in asym x x r r) (to z (later x z xs c)))
    (λ z c. rest_of x z xs (λ same. let r : R y y = subst (R y) (sym same ∙ e) (first_before R y z ys q c) in asym y y r r) (from z (later y z ys c))))
  where
    heads : (a b : A) (xs ys : List A) → ((u v : A) → R u v → R v u → ⊥) → AllPairs R (a ∷ xs) → AllPairs R (b ∷ ys) → (b ≡ a) ⊎ Contains ys a → (a ≡ b) ⊎ Contains xs b → a ≡ b
    heads a b xs ys asym p q (inl e) other = sym e
    heads a b xs ys asym p q (inr c) (inl e) = e
    heads a b xs ys asym p q (inr c) (inr d) = absurd (asym a b (first_before R a b xs p d) (first_before R b a ys q c))

    rest_of : (a z : A) (xs : List A) → (a ≡ z → ⊥) → Contains (a ∷ xs) z → Contains xs z
    rest_of a z xs never c = elim (head_or a z xs c) [ inl e ↦ absurd (never e) | inr o ↦ o ]

-- two lists of the members of one set, in one order, are one
pub one_list : {A : Type 0} (R : A → A → Type 0) (P : A → Type 0) → ((x y : A) → R x y → R y x → ⊥) → (xs ys : List A) → IsOrderedListOf R xs P → IsOrderedListOf R ys P → xs ≡ ys
one_list R P asym xs ys p q = same_list R asym xs ys p.order q.order (λ x c. q.whole x (All-contains P xs x p.each c)) (λ x c. p.whole x (All-contains P ys x q.each c))

pub less_asym : (a b : ℕ) → a < b → b < a → ⊥
less_asym a b p q = absurd (omega arith)
