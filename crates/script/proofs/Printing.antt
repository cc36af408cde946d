-- A printed name is read back as the name.
use Rattle.std.proofs.Common.{◌≡◌, ◌≢◌, ◌<◌, ◌≤◌, ◌+◌, ◌/◌, ◌%◌, ℕ, List, [], ◌∷◌, ◌++◌, length, true, refl, sym, ap, ◌∙◌, inl, inr, arith}
use Rattle.std.specs.Prelude.{All, map, nat_le, ◌||◌, ◌==◌}
use Rattle.std.proofs.lemmas.Bool.{cases_lt, cond_both, cond-true, cond-false, lt-ltb, le-ltb, leb-true, leb-false, eqb-true, eqb-false, or_cases, or_parts, ne_eqb}
use Rattle.std.proofs.lemmas.List.{length-append}
use Rattle.std.proofs.lemmas.List.Elements.{All-nil, All-cons, All-head, All-tail, All-append}
use Rattle.slicer_ids.specs.Escapes.{IsHexDigit, BeginsWith, StandsFor, hex_digit, printed_byte, printed}
use Rattle.script.specs.Words.{IsBlank, IsWord}
use Rattle.script.specs.Operands.{with_slash, IsClassName}

is_hex : (v : ℕ) → v < 16 → IsHexDigit (hex_digit v) v
is_hex v h = elim (cases_lt v 10) [
  | inl lt ↦ inl (lt, cond-true _ (48 + v) (87 + v) (lt-ltb v 10 lt))
  | inr ge ↦ inr (ge, h, cond-false _ (48 + v) (87 + v) (le-ltb v 10 ge))
]

escaped_small : (b : ℕ) → (nat_le b 32 || b == 92 || b == 127) ≡ true → b ≤ 127
escaped_small b e = elim (or_cases (nat_le b 32 || b == 92) (b == 127) e) [
  | inr is ↦ omega (arith, eqb-true b 127 is)
  | inl other ↦ elim (or_cases (nat_le b 32) (b == 92) other) [ inl low ↦ omega (arith, leb-true b 32 low) | inr is ↦ omega (arith, eqb-true b 92 is) ]
]

begins_printed : (b : ℕ) (rest : List ℕ) → BeginsWith (printed_byte b ++ rest) b rest
begins_printed b rest =
    cond_both (nat_le b 32 || b == 92 || b == 127) (92 ∷ hex_digit (b / 16) ∷ hex_digit (b % 16) ∷ []) (b ∷ []) (λ xs. BeginsWith (xs ++ rest) b rest)
    (λ e. let small = escaped_small b e in inl (record {
      high = b / 16;
      low = b % 16;
      first = hex_digit (b / 16);
      second = hex_digit (b % 16);
      is_high = is_hex (b / 16) (omega arith);
      is_low = is_hex (b % 16) (omega arith);
      spells = refl;
      gives = omega arith;
    }))
    (λ e. inr (λ c r s. eqb-false b 92 (or_parts (nat_le b 32) (b == 92) (or_parts (nat_le b 32 || b == 92) (b == 127) e).0).1 (cc s.spells), refl))

pub stands_printed : (bytes : List ℕ) → StandsFor (printed bytes) bytes
stands_printed [] = refl
stands_printed (b ∷ bytes) = (printed bytes, begins_printed b (printed bytes), stands_printed bytes)

high_no_blank : (d : ℕ) → 32 < d → IsBlank d → ⊥
high_no_blank d h (inl e) = omega arith
high_no_blank d h (inr e) = omega arith

hex_no_blank : (d v : ℕ) → IsHexDigit d v → IsBlank d → ⊥
hex_no_blank d v (inl h) b = high_no_blank d (omega arith) b
hex_no_blank d v (inr h) b = high_no_blank d (omega arith) b

NoBlank : ℕ → Type 0
NoBlank b = IsBlank b → ⊥

hex_digit_no_blank : (v : ℕ) → v < 16 → NoBlank (hex_digit v)
unfolding NoBlank
hex_digit_no_blank v h = hex_no_blank (hex_digit v) v (is_hex v h)

printed_no_blank : (b : ℕ) → All (λ x. IsBlank x → ⊥) (printed_byte b)
unfolding NoBlank
printed_no_blank b =
    cond_both (nat_le b 32 || b == 92 || b == 127) (92 ∷ hex_digit (b / 16) ∷ hex_digit (b % 16) ∷ []) (b ∷ []) (All (λ x. IsBlank x → ⊥))
    (λ e. All-cons (λ x. IsBlank x → ⊥) 92 (hex_digit (b / 16) ∷ hex_digit (b % 16) ∷ []) (high_no_blank 92 (omega arith))
    (All-cons (λ x. IsBlank x → ⊥) (hex_digit (b / 16)) (hex_digit (b % 16) ∷ []) (hex_digit_no_blank (b / 16) (let small = escaped_small b e in omega arith))
    (All-cons (λ x. IsBlank x → ⊥) (hex_digit (b % 16)) [] (hex_digit_no_blank (b % 16) (omega arith)) (All-nil (λ x. IsBlank x → ⊥)))))
    (λ e. All-cons (λ x. IsBlank x → ⊥) b []
    (high_no_blank b (leb-false b 32 (or_parts (nat_le b 32) (b == 92) (or_parts (nat_le b 32 || b == 92) (b == 127) e).0).0)) (All-nil (λ x. IsBlank x → ⊥)))

printed_some : (b : ℕ) → 1 ≤ length (printed_byte b)
printed_some b =
    cond_both (nat_le b 32 || b == 92 || b == 127) (92 ∷ hex_digit (b / 16) ∷ hex_digit (b % 16) ∷ []) (b ∷ []) (λ xs. 1 ≤ length xs) (λ e. omega arith) (λ e. omega arith)

no_blanks : (bytes : List ℕ) → All (λ x. IsBlank x → ⊥) (printed bytes)
no_blanks [] = All-nil (λ x. IsBlank x → ⊥)
no_blanks (b ∷ bytes) = All-append (λ x. IsBlank x → ⊥) (printed_byte b) (printed bytes) (printed_no_blank b) (no_blanks bytes)

pub is_word_printed : (bytes : List ℕ) → bytes ≢ [] → IsWord (printed bytes)
is_word_printed [] ne = absurd (ne refl)
is_word_printed (b ∷ bytes) ne =
    (λ e. omega (arith, ap length e, length-append (printed_byte b) (printed bytes), printed_some b), no_blanks (b ∷ bytes))

same_slashes : (bytes : List ℕ) → All (λ b. b ≢ 46) bytes → bytes ≡ map with_slash bytes
same_slashes [] h = refl
same_slashes (b ∷ bytes) h =
    let first : b ≡ with_slash b = sym (cond-false (b == 46) 47 b (ne_eqb b 46 (All-head (λ x. x ≢ 46) b bytes h))) in
    let rest = same_slashes bytes (All-tail (λ x. x ≢ 46) b bytes h) in
    ap (λ xs. b ∷ xs) rest ∙ ap (λ x. x ∷ map with_slash bytes) first

pub class_printed : (bytes : List ℕ) → All (λ b. b ≢ 46) bytes → IsClassName (printed bytes) bytes
class_printed bytes h = (bytes, stands_printed bytes, same_slashes bytes h)
