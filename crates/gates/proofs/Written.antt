-- What is found at the second place where nothing is at the first.
use Rattle.std.proofs.Common.{ℕ, List, Option, Some, None, MatchOption, ◌⊎◌, inr}

pub otherwise : {A : Type 0} (now : A → List ℕ) (P Q : List ℕ → Type 0) (found : Option A) → ((b : List ℕ) → P b → ⊥) → MatchOption found ((b : List ℕ) → Q b → ⊥) (λ x. Q (now x)) → MatchOption found ((b : List ℕ) → (P b → ⊥) × (Q b → ⊥)) (λ x. P (now x) ⊎ Q (now x))
otherwise now P Q None none q = λ b. (none b, q b)
otherwise now P Q (Some x) none q = inr q
