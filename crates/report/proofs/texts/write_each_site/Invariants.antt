use Rattle.std.proofs.Common.{Ok, take}
use Rattle.std.specs.List.{flat_map}
use Rattle.report.specs.Writing.{Wrote}
use Rattle.report.specs.Texts.{site_line}
use Rattle.report.proofs.texts.write_each_site.Given as goal

-- the lines so far were written
abbrev pub invariant-loop-site : goal.invariant-loop-site
invariant-loop-site g l = Wrote g.K.Sink.written g.K.Sink.label g.K.Sink.faults g.K.Sink.steady (flat_map (site_line l.f) (take l.site-index l.sites)) (Ok tt) l.initial.sink l.sink
