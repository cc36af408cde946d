use Rattle.input_tables.proofs.RowEdges.{no_point, point_found, raised_is}
use Rattle.input_tables.proofs.definitions.raised_at.Goals as goal

pub returns-in-None : goal.returns-in-None
returns-in-None c = λ k. (λ e. absurd (cc e), λ h. absurd (no_point _ c.args.points.now c.args.q c.point_at.result c.in-None.is c.point_at.ensures k h))

pub returns-in-Some : goal.returns-in-Some
returns-in-Some c = raised_is c.args.points.now c.args.q c.in-Some.point.now c.raised_node.result (point_found _ c.args.points.now c.args.q c.point_at.result c.in-Some.point c.in-Some.is c.point_at.ensures) c.raised_node.ensures
