use Rattle.report.proofs.Lines.{site_is}
use Rattle.std.proofs.Common.{subst}
use Rattle.report.specs.Writing.{Wrote}
use Rattle.report.proofs.places.write_site.Goals as goal

pub returns : goal.returns
returns g c =
    let e = c.site-place.ensures in
    subst (λ text. Wrote g.K.Sink.written g.K.Sink.label g.K.Sink.faults g.K.Sink.steady text c.write_site_text.result c.args.sink.now c.write_site_text.new.sink)
    (site_is c.args.f.now c.args.site e.0 _ _ _ e.1 e.2 e.3 e.4) c.write_site_text.ensures
