-- Instructions that follow one another are in order of their pcs.
use Rattle.std.proofs.Common.{◌≡◌, ◌<◌, ◌≤◌, ◌+◌, ◌-◌, ℕ, zero, suc, List, length, Contains, Some, ◌⊎◌, inl, inr, sym, ap, subst, ◌∙◌, arith}
use Rattle.std.specs.Prelude.{slice_get}
use Rattle.std.proofs.lemmas.Bool.{cases_lt}
use Rattle.std.proofs.lemmas.Option.{slice_get_within, slice_get_past, same_Some}
use Rattle.class_form.specs.declared.body.Instr.{Instr}
use Rattle.class_form.specs.Shapes.{AreInstrsOf}
use Rattle.class_form.proofs.Indices.{index_in, there_at, index_at}

module _ (size : ℕ) (instrs : List Instr) (are : AreInstrsOf size instrs) where
  pub in_order : (j k : ℕ) (a b : Instr) → j < k → slice_get instrs j ≡ Some a → slice_get instrs k ≡ Some b → a.pc < b.pc
  in_order j zero a b lt ea eb = absurd (omega arith)
  in_order j (suc k) a b lt ea eb =
      let before = index_at instrs k (omega (arith, slice_get_within instrs (suc k) b eb)) in
      let here : slice_get instrs (k + 1) ≡ Some b = subst (λ (n : ℕ). slice_get instrs n ≡ Some b) (omega arith) eb in
      let next = are.follow k before.0 b before.1 here in
      let pos = are.sizes before.0 (there_at instrs k before.0 before.1) in
      elim (cases_lt j k) [
        | inl less ↦ omega (arith, in_order j k a before.0 less ea before.1, next, pos)
        | inr le ↦
            let e : j ≡ k = omega arith in
            let same : a ≡ before.0 = same_Some a before.0 (sym (subst (λ (n : ℕ). slice_get instrs n ≡ Some a) e ea) ∙ before.1) in
            omega (arith, ap (λ (x : Instr). x.pc) same, next, pos)
      ]

  pub index_le : (k : ℕ) (i : Instr) → slice_get instrs k ≡ Some i → k ≤ i.pc
  index_le zero i at = omega arith
  index_le (suc k) i at =
      let before = index_at instrs k (omega (arith, slice_get_within instrs (suc k) i at)) in
      omega (arith, index_le k before.0 before.1, in_order k (suc k) before.0 i (omega arith) before.1 at)

  pub count_le : length instrs ≤ size
  count_le =
      let n = length instrs - 1 in
      let last = index_at instrs n (omega (arith, are.some)) in
      let ends = are.last n last.0 last.1 (slice_get_past instrs (n + 1) (omega (arith, are.some))) in
      omega (arith, index_le n last.0 last.1, ends, are.sizes last.0 (there_at instrs n last.0 last.1))

  -- one instruction begins at a pc
  pub one_instr : (a b : Instr) → Contains instrs a → Contains instrs b → a.pc ≡ b.pc → a ≡ b
  one_instr a b ca cb e =
      let j = index_in instrs a ca in
      let k = index_in instrs b cb in
      elim (cases_lt j.0 k.0) [
        | inl less ↦ absurd (omega (arith, in_order j.0 k.0 a b less j.1 k.1))
        | inr le ↦ elim (cases_lt k.0 j.0) [
          | inl less ↦ absurd (omega (arith, in_order k.0 j.0 b a less k.1 j.1))
          | inr ge ↦ let q : j.0 ≡ k.0 = omega arith in same_Some a b (sym (subst (λ (n : ℕ). slice_get instrs n ≡ Some a) q j.1) ∙ k.1)
        ]
      ]
