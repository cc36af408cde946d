use Rattle.tabulate.proofs.RowLaws.{formal_node}
use Rattle.tabulate.proofs.table_rows.leads.Goals as goal

pub is_got-requires-clause-node : goal.is_got-requires-clause-node
is_got-requires-clause-node c = formal_node c.args.f.now c.args.method.now c.args.formals c.args.formal c.requires.method c.requires.formals c.if-formal-formals.false
