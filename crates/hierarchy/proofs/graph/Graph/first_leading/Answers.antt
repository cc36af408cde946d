use Rattle.std.proofs.Common.{arith}
use Rattle.std.proofs.lemmas.Bool.{iff_false}
use Rattle.hierarchy.specs.Visits.{LeadsToOneOf}
use Rattle.hierarchy.proofs.Descents.{first_more, first_stops, first_ends}
use Rattle.hierarchy.proofs.graph.Graph.first_leading.Goals as goal

pub returns-then-leads_to : goal.returns-then-leads_to
returns-then-leads_to c =
    first_stops (LeadsToOneOf c.args.self.now.edges.items c.args.places.now) c.args.classes.now c.loop-class.class-index 0 (omega arith)
    (c.leads_to.ensures.0 c.if-leads_to.true) c.loop-class.invariant

pub loop-class-preserved : goal.loop-class-preserved
loop-class-preserved c =
    first_more (LeadsToOneOf c.args.self.now.edges.items c.args.places.now) c.args.classes.now c.loop-class.class-index 0 (omega arith)
    (iff_false c.leads_to.ensures c.if-leads_to.false) c.loop-class.invariant

pub returns : goal.returns
returns c = first_ends (LeadsToOneOf c.args.self.now.edges.items c.args.places.now) c.args.classes.now c.loop-class.class-index (omega arith) c.loop-class.invariant
