use Rattle.std.proofs.Common.{Ok, take}
use Rattle.std.specs.List.{flat_map}
use Rattle.report.specs.Writing.{Wrote}
use Rattle.report.specs.declared.reply.LinePlace.{LinePlace}
use Rattle.report.specs.Texts.{line_line}
use Rattle.report.proofs.texts.write_each_line.Given as goal

-- the lines so far were written
abbrev pub invariant-loop-place : goal.invariant-loop-place
invariant-loop-place g l = Wrote g.K.Sink.written g.K.Sink.label g.K.Sink.faults g.K.Sink.steady (flat_map (λ (p : LinePlace). line_line l.f p.method p.line) (take l.place-index l.lines)) (Ok tt) l.initial.sink l.sink
