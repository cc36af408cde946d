-- How many arguments descriptors have.
use Rattle.std.proofs.Common.{◌≡◌, ◌+◌, ℕ, Bool, true, false, List, Some, length, sym, ap, ◌∙◌, inl, inr}
use Rattle.std.specs.Prelude.{◌↔◌}
use Rattle.std.proofs.lemmas.Bool.{false≢true}
use Rattle.class_form.specs.Pools.{descriptor_at}
use Rattle.class_form.specs.Opcodes.{IsInstanceCall}
use Rattle.class_form.specs.declared.pool.Pool.{Pool}
use Rattle.class_form.specs.declared.body.Instr.{Instr}
use Rattle.variable_tables.specs.Arguments.{IsCountOf, IsWithReceiver, AreArgumentsOf}

-- the same count, said otherwise
counted_too : (A B C D : Type 0) (count size n : ℕ) → count ≡ size → (A → C) → (B → D) → IsWithReceiver A B count n → IsWithReceiver C D size n
counted_too A B C D count size n e f g (inl (a, is)) = inl (f a, is ∙ e)
counted_too A B C D count size n e f g (inr (b, is)) = inr (g b, is ∙ ap (λ k. 1 + k) e)

-- the arguments of a call
pub arguments_of : (pool : Pool) (i : Instr) (text : List ℕ) (count n : ℕ) (instance : Bool) → descriptor_at pool i.index ≡ Some text → IsCountOf text (Some count)
    → (instance ≡ true) ↔ IsInstanceCall i.op → IsWithReceiver (instance ≡ false) (instance ≡ true) count n → AreArgumentsOf pool i n
arguments_of pool i text count n instance named (t, is, size) calls receiver =
    inl (
      text,
      t,
      named,
      is,
      counted_too (instance ≡ false) (instance ≡ true) (IsInstanceCall i.op → ⊥) (IsInstanceCall i.op) count (length t.arguments) n size
          (λ e has. false≢true (sym e ∙ calls.1 has)) (λ e. calls.0 e) receiver,
    )
