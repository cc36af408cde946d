use Rattle.hierarchy.proofs.Resolving.{method_upwards, method_beyond}
use Rattle.hierarchy.proofs.look_up.Tree.method_from.Goals as goal

pub returns-in-Some : goal.returns-in-Some
returns-in-Some c = method_upwards c.args.self.now c.requires.tree c.args.name.now c.args.descriptor.now c.args.class c.in-Some.number c.in-Some.ensures

pub returns-in-None : goal.returns-in-None
returns-in-None c = method_beyond c.args.self.now c.requires.tree c.args.name.now c.args.descriptor.now c.args.class c.method_beside.result c.in-None.ensures c.method_beside.ensures
