use Rattle.std.proofs.Common.{map}
use Rattle.hierarchy.specs.Places.{declared_at}
use Rattle.call_graph.proofs.Naming.{none_by_root}
use Rattle.call_graph.proofs.refusals.refused_call.Goals as goal

pub returns-in-None : goal.returns-in-None
returns-in-None c = none_by_root c.args.scene.now.classes.now (map declared_at c.args.scene.now.places.now) c.args.scene.now.system.now (record { 0 = c.args.number }) c.args.call.now c.requires.site c.in-None.is
