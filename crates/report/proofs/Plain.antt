-- Names of bytes that stand for themselves.
use Rattle.std.proofs.Common.{◌≡◌, ◌<◌, ◌+◌, ◌++◌, ℕ, suc, List, [], ◌∷◌, length, take, sym, ap, ◌∙◌, arith}
use Rattle.std.specs.Prelude.{get_or}
use Rattle.std.proofs.Math.Seq.{take-suc}
use Rattle.slicer_ids.specs.Escapes.{printed, printed_byte}
use Rattle.report.proofs.Sequence.{flat_more, taken_all}

-- one more
pub plain_more : (name : List ℕ) (k d : ℕ) → k < length name → printed (take k name) ≡ take k name → printed_byte (get_or name k d) ≡ get_or name k d ∷ []
    → printed (take (k + 1) name) ≡ take (k + 1) name
plain_more name k d lt before one =
    flat_more printed_byte name k d lt ∙ ap (λ xs. xs ++ printed_byte (get_or name k d)) before ∙ ap (λ xs. take k name ++ xs) one
    ∙ sym (take-suc name k d lt) ∙ ap (λ n. take n name) (plus_one k)
  where
    plus_one : (n : ℕ) → suc n ≡ n + 1
    plus_one n = omega arith

-- all
pub plain_all : (name : List ℕ) (k : ℕ) → (k < length name → ⊥) → printed (take k name) ≡ take k name → printed name ≡ name
plain_all name k ge before = ap printed (sym (taken_all name k ge)) ∙ before ∙ taken_all name k ge
