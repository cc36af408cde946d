use Rattle.variable_tables.proofs.SoleDefs.{defined_one, defined_none}
use Rattle.variable_tables.proofs.look_ups.defined_as.Goals as goal

pub returns-in-Some : goal.returns-in-Some
returns-in-Some c =
    defined_one c.args.methods.now c.args.body.now c.args.point.now.pc c.args.operand c.in-Some.def c.def_number.result c.in-Some.ensures c.def_number.ensures

pub returns-in-None : goal.returns-in-None
returns-in-None c = defined_none c.args.methods.now c.args.body.now c.args.point.now.pc c.args.operand c.in-None.ensures
