use Rattle.std.proofs.Common.{Ok, take}
use Rattle.std.specs.List.{flat_map}
use Rattle.slicer_ids.specs.Escapes.{printed_byte}
use Rattle.report.specs.Writing.{Wrote}
use Rattle.report.proofs.writing.write_escaped.Given as goal

-- the bytes so far were written
abbrev pub invariant-loop-byte : goal.invariant-loop-byte
invariant-loop-byte g l =
    Wrote g.K.Sink.written g.K.Sink.label g.K.Sink.faults g.K.Sink.steady (flat_map printed_byte (take l.byte-index l.name)) (Ok tt) l.initial.sink l.sink
