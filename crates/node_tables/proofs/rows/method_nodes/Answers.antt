use Rattle.node_tables.proofs.MethodRows.{method_listed}
use Rattle.node_tables.proofs.rows.method_nodes.Goals as goal

pub returns : goal.returns
returns c =
    method_listed c.args.scene.now c.args.m c.args.answers c.new-nodes.result.items c.add_entry.new.nodes.items c.add_statements.new.nodes.items c.add_exit.new.nodes.items
    c.in_ok-add_entry.ensures c.in_ok-add_statements.ensures c.in_ok-add_exit.ensures c.new-nodes.ensures.items
