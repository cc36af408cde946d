use Rattle.std.proofs.Common.{sym}
use Rattle.edge_io.proofs.Places.{there_is, there_is_none}
use Rattle.edge_io.proofs.stored.entry_at.Goals as goal

pub returns-in-Some : goal.returns-in-Some
returns-in-Some c = sym (there_is c.args.files.now c.args.path.now c.in-Some.place c.index-files-place.result c.in-Some.ensures)

pub returns-in-None : goal.returns-in-None
returns-in-None c = sym (there_is_none c.args.files.now c.args.path.now c.in-None.ensures)
