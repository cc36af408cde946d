use Rattle.node_tables.proofs.InstrLoops.{no_body}
use Rattle.node_tables.proofs.rows.add_statements.Goals as goal

pub returns-in-None : goal.returns-in-None
returns-in-None c = no_body c.args.scene.now c.requires.scene.bodies c.args.m c.args.nodes.now.items c.in-None.ensures
