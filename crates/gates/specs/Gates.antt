-- What the ends at a gate hold.
use Rattle.std.specs.Prelude.{◌≡◌, ℕ, ◌-◌, ◌^◌, ◌<◌, true, false, List, Option, Some, drop}
use Rattle.std.proofs.Common.{true≢false, sym}
use Rattle.gates.specs.declared.source.GateSource.{GateSource}
use Rattle.gates.specs.declared.sink.GateSink.{GateSink}

-- what a source has left
abbrev pub left_of : GateSource → List ℕ
left_of s = drop s.at s.bytes

-- never steady, so that what a steady one has holds of it
pub never_source : (s : GateSource) → false ≡ true → s.faults < 2 ^ 64 - 1
never_source s h = absurd (true≢false (sym h))

pub never_sink : (s : GateSink) → false ≡ true → 0 < 2 ^ 64 - 1
never_sink s h = absurd (true≢false (sym h))

-- a sink of this label, with these bytes
pub record IsWritten (sink : Option GateSink) (label bytes : List ℕ) : Type 0 where
  pub of : GateSink
  pub is : sink ≡ Some of
  pub named : of.label ≡ label
  pub holds : of.bytes.items ≡ bytes
