use Rattle.std.proofs.Common.{◌≡◌, ◌≤◌, ◌*◌, take}
use Rattle.bit_rows.specs.Words.{ones_of}
use Rattle.widening.proofs.following.count_bits.Given as goal

abbrev pub invariant-loop-word : goal.invariant-loop-word
invariant-loop-word l = (l.count ≡ ones_of (take l.word-index l.words)) × (l.count ≤ 64 * l.word-index)
