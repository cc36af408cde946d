use Rattle.std.proofs.lemmas.Bool.{iff_false}
use Rattle.hierarchy.proofs.Descents.{found_nowhere}
use Rattle.hierarchy.proofs.graph.Graph.first_from.Goals as goal

pub returns-else-leads_to : goal.returns-else-leads_to
returns-else-leads_to c =
    found_nowhere c.args.self.now.edges.items c.args.order.now c.requires.graph.back c.args.places.now c.args.class (iff_false c.leads_to.ensures c.if-leads_to.false)
