use Rattle.variable_tables.proofs.Gathering.{handler_list}
use Rattle.variable_tables.proofs.handlers.handlers_of.Goals as goal

pub returns : goal.returns
returns c = handler_list c.args.method.now c.in_ok-pcs.pcs.items c.in_order.result.items c.in_ok-pcs.ensures c.in_order.ensures.order c.in_order.ensures.members
