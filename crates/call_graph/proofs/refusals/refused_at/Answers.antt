use Rattle.call_graph.specs.ByNumber.{IsKind}
use Rattle.call_graph.proofs.LeastKinds.{first_there, none_there}
use Rattle.call_graph.proofs.refusals.refused_at.Goals as goal

pub returns-in-None : goal.returns-in-None
returns-in-None c = none_there (IsKind c.args.native c.args.dynamic c.args.refused) c.args.place c.in-None.ensures

pub returns-in-Some : goal.returns-in-Some
returns-in-Some c = first_there (IsKind c.args.native c.args.dynamic c.args.refused) c.args.place c.in-Some.kind c.in-Some.ensures
