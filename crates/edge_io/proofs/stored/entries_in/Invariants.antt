use Rattle.std.proofs.Common.{take}
use Rattle.edge_io.specs.Paths.{ListsOf}
use Rattle.edge_io.proofs.stored.entries_in.Given as goal

abbrev pub invariant-loop-stored : goal.invariant-loop-stored
invariant-loop-stored l = ListsOf (take l.stored-index l.files) l.folder l.items.items
