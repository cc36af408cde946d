use Rattle.call_graph.proofs.LeastKinds.{least_none, least_reflection}
use Rattle.call_graph.proofs.refusals.reflection_of.Goals as goal

pub returns-in-None : goal.returns-in-None
returns-in-None c = least_none c.args.refused c.in-None.is

pub returns-in-Some : goal.returns-in-Some
returns-in-Some c = least_reflection c.args.refused c.in-Some.number c.in-Some.is
