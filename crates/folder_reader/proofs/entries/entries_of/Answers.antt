use Rattle.folder_reader.proofs.Listed.{told_in_order}
use Rattle.folder_reader.proofs.entries.entries_of.Goals as goal

pub returns-in-Ok-clause-tells : goal.returns-in-Ok-clause-tells
returns-in-Ok-clause-tells g c = told_in_order (g.H.Host.files c.args.host.now) c.args.folder.now c.in-Ok.items.items c.in_order.result.items c.in-Ok.ensures.tells c.in-Ok.ensures.folder c.in_order.ensures.same c.in_order.ensures.sorted
