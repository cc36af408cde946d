use Rattle.std.proofs.Common.{◌≡◌, ℕ, ◌+◌, ◌-◌, ◌*◌, ◌<◌, ◌≤◌, arith, inl, inr, refl}
use Rattle.std.proofs.lemmas.Bool.{cases_lt, false≢true}
use Rattle.class_form.specs.Bytes.{signed_word_at}
use Rattle.bytecode.proofs.Words.{words_ascend, words_descend}
use Rattle.bytecode.proofs.keys.ascend.Goals as goal

-- one more word above the one before it
extends : (w : ℕ → ℕ) (from k here before : ℕ) → 1 ≤ k → ((j : ℕ) → j + 1 < k → w (from + 8 * j) < w (from + 8 * (j + 1)))
    → here ≡ w (from + 8 * k) → before ≡ w (from + 8 * k - 8) → before < here
    → (j : ℕ) → j + 1 < k + 1 → w (from + 8 * j) < w (from + 8 * (j + 1))
extends w from k here before le each h b lt j below =
    elim (cases_lt (j + 1) k) [
      | inl more ↦ each j more
      | inr more ↦
          let one : from + 8 * j ≡ from + 8 * k - 8 = omega arith in
          let two : from + 8 * (j + 1) ≡ from + 8 * k = omega arith in
          rw (one, two, ← h, ← b) lt
    ]

-- .. or not
stops : (w : ℕ → ℕ) (from k here before : ℕ) → 1 ≤ k → here ≡ w (from + 8 * k) → before ≡ w (from + 8 * k - 8) → here ≤ before
    → w (from + 8 * (k - 1 + 1)) ≤ w (from + 8 * (k - 1))
stops w from k here before le h b down =
    let one : from + 8 * (k - 1) ≡ from + 8 * k - 8 = omega arith in
    let two : from + 8 * (k - 1 + 1) ≡ from + 8 * k = omega arith in
    rw (one, two, ← h, ← b) down

pub returns-then-here-before : goal.returns-then-here-before
returns-then-here-before c = (
  λ f. absurd (false≢true f),
  λ up. absurd (words_descend c.args.code.now c.args.from 8 c.args.count (c.loop-k.k - 1) (omega arith)
      (stops (signed_word_at c.args.code.now) c.args.from c.loop-k.k _ _ (omega arith) c.signed_word_at-here.ensures c.signed_word_at-before.ensures (omega arith)) up),
)

pub returns : goal.returns
returns c = (λ f. words_ascend c.args.code.now c.args.from 8 c.args.count (λ j lt. c.loop-k.invariant j (omega arith)), λ up. refl)

pub loop-k-preserved : goal.loop-k-preserved
loop-k-preserved c =
    extends (signed_word_at c.args.code.now) c.args.from c.loop-k.k _ _ (omega arith) c.loop-k.invariant
    c.signed_word_at-here.ensures c.signed_word_at-before.ensures (omega arith)
