use Rattle.std.proofs.Common.{◌∙◌}
use Rattle.class_copy.proofs.Told.{put_there}
use Rattle.class_copy.proofs.copy.put.Goals as goal

pub returns : goal.returns
returns g c =
    put_there (g.H.Host.files c.args.host.now) (g.H.Host.files c.created.new.host) (g.H.Host.files c.closed.new.host) c.args.path.now (g.H.Out.Sink.label c.filled.new.sink) c.args.bytes.now
    (g.H.Out.Sink.written c.in_ok-sink.sink) (g.H.Out.Sink.written c.filled.new.sink)
    c.in_ok-sink.ensures.made c.in_ok-sink.ensures.empty c.in_ok-filled.ensures.whole (c.filled.ensures.label ∙ c.in_ok-sink.ensures.label) c.in_ok-closed.ensures
