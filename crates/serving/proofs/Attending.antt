-- A desk that was attended.
use Rattle.std.proofs.Common.{◌≡◌, ◌≢◌, ◌<◌, ◌-◌, ◌^◌, ℕ, List, ◌++◌, length, take, drop, sym, ap, ◌∙◌, subst, arith}
use Rattle.std.proofs.Math.Seq.{take-append_seam}
use Rattle.edge_io.specs.Faults.{Rose}
use Rattle.sessions.specs.declared.desk.Outcome.{Outcome}
use Rattle.sessions.specs.declared.desk.Outcome.TheVariants.{ReadFault, WriteFault}
use Rattle.sessions.specs.Desks.{HasCause}

-- the count of a steady end doesn't rise
not_risen : (a c : ℕ) → c ≡ a → a < 2 ^ 64 - 1 → Rose a c → ⊥
not_risen a c e lt h = omega (arith, e, lt, h)

-- a steady source doesn't fault
pub sure_read : (o : Outcome) (a c x z : ℕ) → c ≡ a → a < 2 ^ 64 - 1 → HasCause o a c x z → (n : ℕ) → o ≢ ReadFault n
sure_read o a c x z e lt cause n is = not_risen a c e lt (subst (λ (p : Outcome). HasCause p a c x z) is cause)

-- .. nor a steady sink
pub sure_write : (o : Outcome) (a c x z : ℕ) → z ≡ x → x < 2 ^ 64 - 1 → HasCause o a c x z → (n : ℕ) → o ≢ WriteFault n
sure_write o a c x z e lt cause n is = not_risen x z e lt (subst (λ (p : Outcome). HasCause p a c x z) is cause)

-- the items of a vector whose whole slice was written
pub whole : {A : Type 0} (ys xs : List A) (n : ℕ) → length ys ≡ n → take n (ys ++ drop (length ys) xs) ≡ ys
whole ys xs n e = ap (λ (k : ℕ). take k (ys ++ drop (length ys) xs)) (sym e) ∙ take-append_seam ys (drop (length ys) xs)
