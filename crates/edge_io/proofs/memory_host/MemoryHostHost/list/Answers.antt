use Rattle.std.proofs.Common.{List, subst}
use Rattle.edge_io.specs.Paths.{ListsOf}
use Rattle.edge_io.proofs.Entries.{listed}
use Rattle.edge_io.proofs.Places.{Stored}
use Rattle.edge_io.proofs.memory_host.MemoryHostHost.list.Goals as goal

pub returns-clause-tells : goal.returns-clause-tells
returns-clause-tells c =
    listed c.args.self.now.files.items c.args.path.now c.in_ok-items.items.items c.args.self.now.once
    (subst (λ (s : List Stored). ListsOf s c.args.path.now c.in_ok-items.items.items) c.as_slice.ensures.value c.in_ok-items.ensures)
