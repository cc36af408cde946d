use Rattle.dep_form.proofs.Searching.{all_at}
use Rattle.node_tables.specs.Scenes.{IsInOrder}
use Rattle.input_tables.proofs.ControlFlow.{body_points}
use Rattle.input_tables.proofs.points.points_at.Goals as goal

pub returns : goal.returns
returns c = body_points c.args.bodies.now c.args.m c.requires.order c.args.number c.body_at.result.now c.body_at.ensures c.requires.number (all_at IsInOrder c.args.bodies.now c.requires.ordered c.args.number c.body_at.result.now c.body_at.ensures).points c.items.result.now c.items.ensures
