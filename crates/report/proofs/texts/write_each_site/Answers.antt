use Rattle.std.proofs.Common.{rules}
use Rattle.report.specs.Texts.{site_line}
use Rattle.report.proofs.Sequence.{one_more, one_refused, all_done, wrote_none}
use Rattle.report.proofs.texts.write_each_site.Goals as goal

pub loop-site-init : goal.loop-site-init
loop-site-init g c = wrote_none g.K.Sink.written g.K.Sink.label g.K.Sink.faults g.K.Sink.steady _ _

pub returns-in_err-write_site : goal.returns-in_err-write_site
returns-in_err-write_site g c =
    one_refused g.K.Sink.written g.K.Sink.label g.K.Sink.faults g.K.Sink.steady (site_line c.args.f.now) c.args.sites.now c.loop-site.site-index _ _ c.in_err-write_site.field-0.0 _ _ _ _ _
    (search rules) (search rules) (search rules) c.loop-site.invariant c.write_site.ensures

pub loop-site-preserved : goal.loop-site-preserved
loop-site-preserved g c =
    one_more g.K.Sink.written g.K.Sink.label g.K.Sink.faults g.K.Sink.steady (site_line c.args.f.now) c.args.sites.now c.loop-site.site-index _ _ tt _ _ _ _
    (search rules) (search rules) c.loop-site.invariant c.write_site.ensures

pub returns : goal.returns
returns g c = all_done g.K.Sink.written g.K.Sink.label g.K.Sink.faults g.K.Sink.steady (site_line c.args.f.now) c.args.sites.now c.loop-site.site-index _ _ _ (search rules) c.loop-site.invariant
