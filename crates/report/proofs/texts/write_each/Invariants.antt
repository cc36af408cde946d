use Rattle.std.proofs.Common.{Ok, take}
use Rattle.std.specs.List.{flat_map}
use Rattle.report.specs.Writing.{Wrote}
use Rattle.report.specs.Texts.{statement_line}
use Rattle.report.proofs.texts.write_each.Given as goal

-- the lines so far were written
abbrev pub invariant-loop-s : goal.invariant-loop-s
invariant-loop-s g l = Wrote g.K.Sink.written g.K.Sink.label g.K.Sink.faults g.K.Sink.steady (flat_map (statement_line l.f) (take l.s-index l.statements)) (Ok tt) l.initial.sink l.sink
