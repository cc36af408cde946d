-- A program counter has one line.
use Rattle.std.proofs.Common.{◌≡◌, ◌<◌, ◌≤◌, ◌+◌, ℕ, List, Option, Some, None, refl, sym, ap, subst, ◌∙◌, arith}
use Rattle.std.specs.Prelude.{slice_get}
use Rattle.std.proofs.lemmas.Option.{same_Some}
use Rattle.line_numbers.specs.LineTables.{IsLastAt, IsLineBelow}

-- two last lines that begin at one program counter are one
one_last : (lines : List (ℕ × ℕ)) (s t a b : ℕ) → s ≡ t → IsLastAt lines s (Some a) → IsLastAt lines t (Some b) → a ≡ b
one_last lines s t a b e (j, first, last) (k, second, end) =
    let there : slice_get lines k ≡ Some (s, b) = second ∙ ap (λ (n : ℕ). Some (n, b)) (sym e) in
    let here : slice_get lines j ≡ Some (t, a) = first ∙ ap (λ (n : ℕ). Some (n, a)) e in
    let low = last k b there in
    let high = end j a here in
    let same : j ≡ k = omega arith in
    let pair : (s, a) ≡ (s, b) = same_Some (s, a) (s, b) (sym first ∙ ap (slice_get lines) same ∙ there) in
    ap (λ (x : ℕ × ℕ). x.1) pair

pub one_line_below : (lines : List (ℕ × ℕ)) (end : ℕ) (o p : Option ℕ) → IsLineBelow lines end o → IsLineBelow lines end p → o ≡ p
one_line_below lines end None None h k = refl
one_line_below lines end None (Some b) h k = let far = h k.2.0 (k.0, b) k.2.1 in absurd (omega (arith, k.1))
one_line_below lines end (Some a) None h k = let far = k h.2.0 (h.0, a) h.2.1 in absurd (omega (arith, h.1))
one_line_below lines end (Some a) (Some b) h k =
    let low = k.3 h.2.0 (h.0, a) h.2.1 h.1 in
    let high = h.3 k.2.0 (k.0, b) k.2.1 k.1 in
    let same : h.0 ≡ k.0 = omega arith in
    ap (λ (n : ℕ). Some n) (one_last lines h.0 k.0 a b same h.2 k.2)
