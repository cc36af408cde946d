use Rattle.std.proofs.Common.{subst}
use Rattle.thin_slice.proofs.Located.{one_method}
use Rattle.thin_slice.proofs.needs.graph_need.Goals as goal

pub returns-in-Ok : goal.returns-in-Ok
returns-in-Ok g c = λ m at.
    let h = c.in-Ok.ensures.found in
    subst (λ x. g.G.SeenGraphs.has_seen c.args.graphs.now x) (one_method c.args.f.now c.args.n h.0 m h.1 at) h.2
