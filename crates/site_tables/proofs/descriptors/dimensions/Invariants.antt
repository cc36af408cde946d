use Rattle.std.proofs.Common.{◌≡◌, ◌+◌, drop}
use Rattle.std.specs.Prelude.{◌==◌}
use Rattle.std.specs.List.{prefix_len}
use Rattle.site_tables.proofs.descriptors.dimensions.Given as goal

abbrev pub invariant-loop-byte : goal.invariant-loop-byte
invariant-loop-byte l = record {
  same : l.count ≡ l.byte-index;
  left : l.count + prefix_len (λ b. b == 91) (drop l.byte-index l.bytes) ≡ prefix_len (λ b. b == 91) l.bytes;
}
