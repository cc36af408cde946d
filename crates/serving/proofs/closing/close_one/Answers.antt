use Rattle.std.proofs.Common.{inl}
use Rattle.serving.proofs.ClosedSinks.{closed_is}
use Rattle.serving.proofs.closing.close_one.Goals as goal

pub returns-in-Ok-clause-closed : goal.returns-in-Ok-clause-closed
returns-in-Ok-clause-closed g c = λ e.
    closed_is g.H.Out.Sink.written g.H.Out.Sink.label c.args.sink (g.H.Host.files c.args.host.now) (g.H.Host.files c.close.new.self) c.in-Ok.ensures.made c.in-Ok.ensures.others

pub returns-in-Ok-clause-kept : goal.returns-in-Ok-clause-kept
returns-in-Ok-clause-kept g c =
    inl (closed_is g.H.Out.Sink.written g.H.Out.Sink.label c.args.sink (g.H.Host.files c.args.host.now) (g.H.Host.files c.close.new.self) c.in-Ok.ensures.made c.in-Ok.ensures.others)
