use Rattle.std.proofs.Common.{ℕ, ◌+◌, ◌*◌, ◌<◌}
use Rattle.class_form.specs.Bytes.{signed_word_at}
use Rattle.bytecode.proofs.keys.ascend.Given as goal

abbrev pub invariant-loop-k : goal.invariant-loop-k
invariant-loop-k l = (j : ℕ) → j + 1 < l.k → signed_word_at l.code (l.from + 8 * j) < signed_word_at l.code (l.from + 8 * (j + 1))
