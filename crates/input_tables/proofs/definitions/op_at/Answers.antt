use Rattle.std.proofs.lemmas.Option.{slice_get_within}
use Rattle.input_tables.proofs.RowEdges.{no_op, op_is}
use Rattle.input_tables.proofs.definitions.op_at.Goals as goal

pub op_of-requires : goal.op_of-requires
op_of-requires c = let w = (c.point_of.ensures c.in-Some.q).0 c.in-Some.is in slice_get_within c.args.points.now c.in-Some.q w.0 w.1

pub returns-in-None : goal.returns-in-None
returns-in-None c = λ op. (λ e. absurd (cc e), λ h. absurd (no_op c.args.points.now c.args.pc c.point_of.result c.point_of.ensures c.in-None.is op h))

pub returns-in-Some : goal.returns-in-Some
returns-in-Some c = op_is c.args.points.now c.args.pc c.in-Some.q c.op_of.result c.point_of.result c.point_of.ensures c.in-Some.is c.op_of.ensures
