use Rattle.std.proofs.Common.{Some, arith}
use Rattle.summary_memo.proofs.Widths.{input_of_exit, has_input, width_from, width_few}
use Rattle.summary_memo.proofs.places.width_of.Goals as goal

pub method_of-method-requires : goal.method_of-method-requires
method_of-method-requires c =
    let p = input_of_exit c.args.f.now c.args.e c.exit_node.result c.exit_node.ensures in
    (record { 0 = p.0 }, (Some p.1, p.2, p.3))

pub formals-requires : goal.formals-requires
formals-requires c = has_input c.args.f.now.inputs c.exit_node.result c.method_of-method.result c.method_of-method.ensures

pub returns-clause-width : goal.returns-clause-width
returns-clause-width c = width_from c.args.f.now c.args.e c.exit_node.result c.method_of-method.result c.formals.result c.exit_node.ensures c.method_of-method.ensures c.formals.ensures

pub returns-clause-few : goal.returns-clause-few
returns-clause-few c =
    omega (arith, width_few c.args.f.now c.args.e.0, width_from c.args.f.now c.args.e c.exit_node.result c.method_of-method.result c.formals.result c.exit_node.ensures c.method_of-method.ensures c.formals.ensures)
