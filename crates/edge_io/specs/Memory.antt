-- What the ends and the host in memory tell.
use Rattle.std.specs.Prelude.{◌≡◌, ℕ, ◌-◌, ◌^◌, ◌<◌, Bool, true, List, drop}
use Rattle.std.proofs.Common.{arith}
use Rattle.edge_io.specs.Files.{Files}
use Rattle.edge_io.specs.Paths.{files_in}
use Rattle.edge_io.specs.Plans.{is_nil, calls_of}
use Rattle.edge_io.specs.declared.memory_source.MemorySource.{MemorySource}
use Rattle.edge_io.specs.declared.memory_sink.MemorySink.{MemorySink}
use Rattle.edge_io.specs.declared.memory_host.MemoryHost.{MemoryHost}

-- what a source has left
abbrev pub left_of : MemorySource → List ℕ
left_of s = drop s.at s.bytes

abbrev pub is_steady_source : MemorySource → Bool
is_steady_source s = is_nil s.calls.failing

pub source_below : (s : MemorySource) → is_steady_source s ≡ true → s.calls.faults < 2 ^ 64 - 1
source_below s h = let q = s.quiet h in omega arith

abbrev pub is_steady_sink : MemorySink → Bool
is_steady_sink s = is_nil s.calls.failing

pub sink_below : (s : MemorySink) → is_steady_sink s ≡ true → s.calls.faults < 2 ^ 64 - 1
sink_below s h = let q = s.quiet h in omega arith

-- a host's files
abbrev pub files_of : MemoryHost → Files
files_of h = files_in h.files.items

-- no call of the host itself is to fail
abbrev pub is_steady_host : MemoryHost → Bool
is_steady_host h = is_nil h.calls.failing

-- the plan names no read call of the file
abbrev pub is_source_steady : MemoryHost → List ℕ → Bool
is_source_steady h path = is_nil (calls_of h.sources path)

-- the plan names no write call of the file
abbrev pub is_sink_steady : MemoryHost → List ℕ → Bool
is_sink_steady h path = is_nil (calls_of h.sinks path)
