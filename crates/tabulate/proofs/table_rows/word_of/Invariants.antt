use Rattle.std.proofs.Common.{◌≡◌, ◌<◌, ◌+◌, ◌*◌, ℕ}
use Rattle.std.specs.Prelude.{◌↔◌}
use Rattle.std.specs.Int.{bit_at}
use Rattle.tabulate.specs.Found.{Got}
use Rattle.tabulate.proofs.table_rows.word_of.Given as goal

abbrev pub invariant-loop-bit : goal.invariant-loop-bit
invariant-loop-bit l = (b : ℕ) → (bit_at l.bits b ≡ 1) ↔ ((b < l.bit) × ((64 * l.word + b < l.formals) × Got l.f l.found.items (l.method.first.0 + (64 * l.word + b), l.number)))
