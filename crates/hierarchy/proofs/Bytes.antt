-- The order of names by their bytes.
use Rattle.std.proofs.Common.{◌≡◌, ℕ, ◌⊎◌, inl, inr, false, List, [], ◌∷◌, refl, sym, ap, ◌∙◌, subst, Ordering}
use Rattle.std.specs.declared.cmp.Ordering.TheVariants.{Less, Equal, Greater}
use Rattle.std.specs.Ordering.{nat_cmp, is_lt, ordering_reverse, ordering_then}
use Rattle.std.specs.Cmp.Lexicographic.{slice_cmp}
use Rattle.std.proofs.lemmas.Bool.{false≢true}
use Rattle.std.proofs.lemmas.Cmp.{nat_list_cmp_total, tied_itself, ranked, by_ranked}
use Rattle.slicer_ids.specs.Order.{BytesBefore}

pub cases_ordering : (o : Ordering) → (o ≡ Less) ⊎ (o ≡ Equal) ⊎ (o ≡ Greater)
cases_ordering Less = inl refl
cases_ordering Equal = inr (inl refl)
cases_ordering Greater = inr (inr refl)

pub then_equal : (o p : Ordering) → ordering_then o p ≡ Equal → (o ≡ Equal) × (p ≡ Equal)
then_equal Less p e = absurd (cc e)
then_equal Equal p e = (refl, e)
then_equal Greater p e = absurd (cc e)

pub same_number : (x y : ℕ) → nat_cmp x y ≡ Equal → x ≡ y
same_number x y e = by_ranked _ _ _ (nat_cmp x y) (ranked x y (nat_cmp x y) refl) (λ l h. absurd (cc (sym l ∙ e))) (λ l h. h) (λ g h. absurd (cc (sym g ∙ e)))

-- names that tie are one
pub same_bytes : (x y : List ℕ) → slice_cmp nat_cmp x y ≡ Equal → x ≡ y
same_bytes [] [] e = refl
same_bytes [] (y ∷ ys) e = absurd (cc e)
same_bytes (x ∷ xs) [] e = absurd (cc e)
same_bytes (x ∷ xs) (y ∷ ys) e =
    let t = then_equal (nat_cmp x y) (slice_cmp nat_cmp xs ys) e in
    let first = same_number x y t.0 in
    let rest = same_bytes xs ys t.1 in
    cc (first, rest)

pub not_before_itself : (x : List ℕ) → BytesBefore x x → ⊥
not_before_itself x h = absurd (cc (sym h ∙ tied_itself nat_list_cmp_total x))

pub before_trans : (x y z : List ℕ) → BytesBefore x y → BytesBefore y z → BytesBefore x z
before_trans = nat_list_cmp_total.trans

-- what doesn't come before a name is the name, or comes after it
pub not_before : (x y : List ℕ) → is_lt (slice_cmp nat_cmp y x) ≡ false → (x ≡ y) ⊎ BytesBefore x y
not_before x y h = elim (cases_ordering (slice_cmp nat_cmp x y)) [
  | inl l ↦ inr l
  | inr other ↦ elim other [
    | inl e ↦ inl (same_bytes x y e)
    | inr g ↦ absurd (false≢true (sym h ∙ ap is_lt (nat_list_cmp_total.antisymm y x ∙ ap ordering_reverse g)))
  ]
]

pub before_upto : (x y z : List ℕ) → BytesBefore x y → (y ≡ z) ⊎ BytesBefore y z → BytesBefore x z
before_upto x y z h (inl e) = subst (BytesBefore x) e h
before_upto x y z h (inr k) = before_trans x y z h k

pub upto_before : (x y z : List ℕ) → (x ≡ y) ⊎ BytesBefore x y → BytesBefore y z → BytesBefore x z
upto_before x y z (inl e) k = subst (λ a. BytesBefore a z) (sym e) k
upto_before x y z (inr h) k = before_trans x y z h k
