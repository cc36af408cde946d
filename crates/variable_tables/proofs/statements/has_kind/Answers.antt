use Rattle.variable_tables.proofs.AtPc.{kind_there}
use Rattle.variable_tables.proofs.statements.has_kind.Goals as goal

pub returns-in-Some : goal.returns-in-Some
returns-in-Some c =
    kind_there c.args.instrs.now c.requires c.args.kind c.args.pc c.in-Some.instr.now c.is_of.result c.in-Some.ensures.found.0 c.in-Some.ensures.found.1 c.is_of.ensures
