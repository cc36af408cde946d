use Rattle.thin_slice.proofs.Located.{some_node}
use Rattle.thin_slice.proofs.needs.method_at.Goals as goal

pub method_of-requires : goal.method_of-requires
method_of-requires c = some_node c.args.f.now c.args.n c.requires
