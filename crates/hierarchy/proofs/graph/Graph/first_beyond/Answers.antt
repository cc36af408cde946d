use Rattle.digraph.specs.Graphs.{targets}
use Rattle.hierarchy.proofs.Descents.{leads_on, onwards, none_onwards}
use Rattle.hierarchy.proofs.graph.Graph.first_beyond.Goals as goal

pub descend-requires-clause-class : goal.descend-requires-clause-class
descend-requires-clause-class c = (leads_on c.args.self.now.edges.items c.args.places.now c.args.class c.in-Some.first c.requires.graph.edges c.in-Some.ensures).1

pub descend-requires-clause-leads : goal.descend-requires-clause-leads
descend-requires-clause-leads c = (leads_on c.args.self.now.edges.items c.args.places.now c.args.class c.in-Some.first c.requires.graph.edges c.in-Some.ensures).2

pub returns-in-Some : goal.returns-in-Some
returns-in-Some c =
    let g = c.args.self.now.edges.items in
    onwards g c.args.order.now c.requires.graph.back c.args.places.now (targets g c.args.class) c.in-Some.first c.descend.result c.in-Some.ensures c.descend.ensures

pub returns-in-None : goal.returns-in-None
returns-in-None c =
    let g = c.args.self.now.edges.items in
    none_onwards g c.args.order.now c.requires.graph.back c.args.places.now (targets g c.args.class) c.in-None.ensures
