-- Lists that are made item by item, and lists that are joined.
use Rattle.std.proofs.Common.{◌≡◌, ◌≢◌, ◌⊎◌, ◌+◌, ◌<◌, ◌++◌, ℕ, zero, suc, List, [], ◌∷◌, length, get_or, Contains, Some, inl, inr, refl, sym, ap, subst, ◌∙◌, arith}
use Rattle.std.specs.Prelude.{slice_get, All, AllPairs, map, option_map}
use Rattle.std.proofs.lemmas.Option.{same_Some, slice_get_within, slice_get-get_or, get_or_from_slice_get, slice_get-map}
use Rattle.slicer_ids.specs.Sets.{IsOrderedListOf}
use Rattle.class_form.proofs.Indices.{later, index_at}

-- each item of the one list has its counterpart in the other
pub record IsMadeFrom {A B : Type 0} (R : A → B → Type 0) (xs : List A) (ys : List B) : Type 0 where
  pub size : length xs ≡ length ys
  pub there : (k : ℕ) (x : A) → slice_get xs k ≡ Some x → (y : B) × (slice_get ys k ≡ Some y) × R x y

there_after : {A B : Type 0} (R : A → B → Type 0) (x : A) (y : B) (xs : List A) (ys : List B) → R x y → IsMadeFrom R xs ys → (k : ℕ) (z : A) → slice_get (x ∷ xs) k ≡ Some z
    → (w : B) × (slice_get (y ∷ ys) k ≡ Some w) × R z w
there_after {A} R x y xs ys r made zero z e = (y, refl, subst (λ (u : A). R u y) (same_Some x z e) r)
there_after R x y xs ys r made (suc k) z e = made.there k z e

pub make : {A B : Type 0} (R : A → B → Type 0) (xs : List A) → ((x : A) → Contains xs x → (y : B) × R x y) → (ys : List B) × IsMadeFrom R xs ys
make {A} {B} R [] f = ([], record { size = refl; there = λ k x e. absurd (omega (arith, slice_get_within [] k x e)) })
make {A} {B} R (x ∷ xs) f =
    let y = f x (0, omega arith, refl) in
    let rest = make R xs (λ z c. f z (later x z xs c)) in
    (y.0 ∷ rest.0, record { size = ap suc rest.1.size; there = there_after R x y.0 xs rest.0 y.1 rest.1 })

pub back : {A B : Type 0} (R : A → B → Type 0) (xs : List A) (ys : List B) → IsMadeFrom R xs ys → (k : ℕ) (y : B) → slice_get ys k ≡ Some y → (x : A) × (slice_get xs k ≡ Some x) × R x y
back {A} {B} R xs ys made k y e =
    let x = index_at xs k (omega (arith, slice_get_within ys k y e, made.size)) in
    let z = made.there k x.0 x.1 in
    (x.0, x.1, subst (λ (w : B). R x.0 w) (same_Some z.0 y (sym z.1 ∙ e)) z.2)

-- JOINED LISTS

pub join_left : {A : Type 0} (xs ys : List A) (k : ℕ) (x : A) → slice_get xs k ≡ Some x → slice_get (xs ++ ys) k ≡ Some x
join_left [] ys k x e = absurd (omega (arith, slice_get_within [] k x e))
join_left (a ∷ xs) ys zero x e = e
join_left (a ∷ xs) ys (suc k) x e = join_left xs ys k x e

pub join_right : {A : Type 0} (xs ys : List A) (k n : ℕ) (y : A) → n ≡ length xs + k → slice_get ys k ≡ Some y → slice_get (xs ++ ys) n ≡ Some y
join_right [] ys k n y e h = subst (λ m. slice_get ys m ≡ Some y) (omega (arith, e)) h
join_right (a ∷ xs) ys k zero y e h = absurd (omega (arith, e))
join_right (a ∷ xs) ys k (suc n) y e h = join_right xs ys k n y (omega (arith, e)) h

pub joined : {A : Type 0} (xs ys : List A) (n : ℕ) (x : A) → slice_get (xs ++ ys) n ≡ Some x → (slice_get xs n ≡ Some x) ⊎ ((k : ℕ) × (n ≡ length xs + k) × (slice_get ys k ≡ Some x))
joined [] ys n x e = inr (n, omega arith, e)
joined (a ∷ xs) ys zero x e = inl e
joined (a ∷ xs) ys (suc n) x e = elim (joined xs ys n x e) [ inl h ↦ inl h | inr w ↦ inr (w.0, omega (arith, w.1), w.2) ]

-- no item stands at two places
pub apart : {A : Type 0} (xs : List A) → ((i j : ℕ) (x : A) → slice_get xs i ≡ Some x → slice_get xs j ≡ Some x → i ≡ j) → AllPairs (λ (a b : A). a ≢ b) xs
apart {A} xs one i j d lt within e =
    let first : slice_get xs i ≡ Some (get_or xs j d) = slice_get-get_or xs i d (omega (arith, lt, within)) ∙ ap (λ (a : A). Some a) e in
    omega (arith, lt, one i j (get_or xs j d) first (slice_get-get_or xs j d within))

-- MAPPED LISTS

pub mapped : {A B : Type 0} (f : A → B) (xs : List A) (k : ℕ) (y : B) → slice_get (map f xs) k ≡ Some y → (x : A) × (slice_get xs k ≡ Some x) × (f x ≡ y)
mapped f [] k y e = absurd (omega (arith, slice_get_within [] k y e))
mapped f (x ∷ xs) zero y e = (x, refl, same_Some (f x) y e)
mapped f (x ∷ xs) (suc k) y e = mapped f xs k y e

pub map_at : {A B : Type 0} (f : A → B) (xs : List A) (k : ℕ) (x : A) → slice_get xs k ≡ Some x → slice_get (map f xs) k ≡ Some (f x)
map_at f xs k x e = slice_get-map f xs k ∙ ap (λ o. option_map f o) e

-- the same list, of the members of an equal set
pub listed_as : {A : Type 0} (R : A → A → Type 0) (P Q : A → Type 0) (xs : List A) → ((x : A) → P x → Q x) → ((x : A) → Q x → P x) → IsOrderedListOf R xs P → IsOrderedListOf R xs Q
listed_as R P Q xs f b o = record { each = λ k d lt. f (get_or xs k d) (o.each k d lt); order = o.order; whole = λ x q. o.whole x (b x q) }

-- PAIRS OF ITEMS

pub pair_at : {A : Type 0} (R : A → A → Type 0) (xs : List A) → AllPairs R xs → (i j : ℕ) (x y : A) → i < j → slice_get xs i ≡ Some x → slice_get xs j ≡ Some y → R x y
pair_at {A} R xs order i j x y lt ex ey =
    subst (λ (z : A). R z y) (get_or_from_slice_get xs i x y ex)
    (subst (λ (z : A). R (get_or xs i y) z) (get_or_from_slice_get xs j y y ey) (order i j y lt (slice_get_within xs j y ey)))

pub pairs_of : {A : Type 0} (R : A → A → Type 0) (xs : List A) → ((i j : ℕ) (x y : A) → i < j → slice_get xs i ≡ Some x → slice_get xs j ≡ Some y → R x y) → AllPairs R xs
pairs_of {A} R xs f i j d lt within = f i j (get_or xs i d) (get_or xs j d) lt (slice_get-get_or xs i d (omega (arith, lt, within))) (slice_get-get_or xs j d within)

pub all_of : {A : Type 0} (P : A → Type 0) (xs : List A) → ((i : ℕ) (x : A) → slice_get xs i ≡ Some x → P x) → All P xs
all_of {A} P xs f k d lt = f k (get_or xs k d) (slice_get-get_or xs k d lt)
