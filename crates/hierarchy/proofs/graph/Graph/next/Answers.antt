use Rattle.hierarchy.proofs.Descents.{goes_on}
use Rattle.hierarchy.proofs.graph.Graph.next.Goals as goal

pub unreachable-requires : goal.unreachable-requires
unreachable-requires c =
    goes_on c.args.self.now.edges.items c.args.places.now c.args.class c.requires.leads c.requires.without c.in-None.ensures
