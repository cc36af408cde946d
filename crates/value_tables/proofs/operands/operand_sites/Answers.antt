use Rattle.std.proofs.Common.{List}
use Rattle.mod_ref.proofs.Gaining.{gained}
use Rattle.value_tables.specs.Values.{OperandHas}
use Rattle.value_tables.proofs.Gathered.{listed_in_order}
use Rattle.value_tables.proofs.operands.operand_sites.Goals as goal

pub returns : goal.returns
returns c =
    let none = c.new-sites.result.items in
    let all = c.add_operand.new.sites.items in
    listed_in_order all c.in_order.result.items (OperandHas c.args.x.now c.args.point.now c.args.i) (gained none all (OperandHas c.args.x.now c.args.point.now c.args.i) c.new-sites.ensures.items c.in_ok-add_operand.ensures)
    c.in_order.ensures.order c.in_order.ensures.members
