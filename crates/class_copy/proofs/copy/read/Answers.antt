use Rattle.class_copy.proofs.Told.{found}
use Rattle.class_copy.proofs.copy.read.Goals as goal

pub returns-in-Ok-clause-read : goal.returns-in-Ok-clause-read
returns-in-Ok-clause-read g c =
    found (g.H.Host.files c.args.host.now) c.args.from.now c.in_ok-bytes.bytes.items c.deref.result.now c.in-Ok._class
    c.in_ok-bytes.ensures.tells c.deref.ensures.value c.in-Ok.ensures.found
