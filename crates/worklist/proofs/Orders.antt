-- What derived comparisons of numbers, one after the other, say.
use Rattle.std.proofs.Common.{◌≡◌, ◌<◌, ℕ, true, ◌⊎◌, inl, inr, refl}
use Rattle.std.specs.declared.cmp.Ordering.{Ordering}
use Rattle.std.specs.declared.cmp.Ordering.TheVariants.{Less, Equal, Greater}
use Rattle.std.specs.Ordering.{nat_cmp, ordering_then, MatchOrdering, is_eq}
use Rattle.std.proofs.lemmas.Cmp.{ranked}

by_then : (r o : Ordering) (A B C : Type 0) → MatchOrdering r A B C → ordering_then r o ≡ Less → A ⊎ (B × (o ≡ Less))
by_then Less o A B C m e = inl m
by_then Equal o A B C m e = inr (m, e)
by_then Greater o A B C m e = absurd cc

pub then_less : (x y : ℕ) (o : Ordering) → ordering_then (nat_cmp x y) o ≡ Less → (x < y) ⊎ ((x ≡ y) × (o ≡ Less))
then_less x y o e = by_then (nat_cmp x y) o (x < y) (x ≡ y) (y < x) (ranked x y (nat_cmp x y) refl) e

by_equal : (r o : Ordering) (A B C : Type 0) → MatchOrdering r A B C → ordering_then r o ≡ Equal → B × (o ≡ Equal)
by_equal Less o A B C m e = absurd cc
by_equal Equal o A B C m e = (m, e)
by_equal Greater o A B C m e = absurd cc

pub then_equal : (x y : ℕ) (o : Ordering) → ordering_then (nat_cmp x y) o ≡ Equal → (x ≡ y) × (o ≡ Equal)
then_equal x y o e = by_equal (nat_cmp x y) o (x < y) (x ≡ y) (y < x) (ranked x y (nat_cmp x y) refl) e

if_less : (r : Ordering) (A B C : Type 0) → MatchOrdering r A B C → r ≡ Less → A
if_less Less A B C m e = m
if_less Equal A B C m e = absurd cc
if_less Greater A B C m e = absurd cc

if_equal : (r : Ordering) (A B C : Type 0) → MatchOrdering r A B C → r ≡ Equal → B
if_equal Less A B C m e = absurd cc
if_equal Equal A B C m e = m
if_equal Greater A B C m e = absurd cc

pub nat_less : (x y : ℕ) → nat_cmp x y ≡ Less → x < y
nat_less x y e = if_less (nat_cmp x y) (x < y) (x ≡ y) (y < x) (ranked x y (nat_cmp x y) refl) e

pub nat_equal : (x y : ℕ) → nat_cmp x y ≡ Equal → x ≡ y
nat_equal x y e = if_equal (nat_cmp x y) (x < y) (x ≡ y) (y < x) (ranked x y (nat_cmp x y) refl) e

pub if_is_eq : (r : Ordering) → is_eq r ≡ true → r ≡ Equal
if_is_eq Less e = absurd cc
if_is_eq Equal e = refl
if_is_eq Greater e = absurd cc
