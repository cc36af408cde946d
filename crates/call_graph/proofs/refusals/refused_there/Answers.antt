use Rattle.std.proofs.Common.{◌<◌, map, sym, subst}
use Rattle.hierarchy.specs.Places.{declared_at}
use Rattle.call_graph.proofs.Naming.{first_by, none_unreached, place_within}
use Rattle.call_graph.proofs.refusals.refused_there.Goals as goal

pub is_reached-requires : goal.is_reached-requires
is_reached-requires c = subst (λ n. c.args.place.method.0 < n) (sym c.requires.solved.methods) (place_within c.args.scene.now.system.now c.args.number c.args.call.now c.args.place c.requires.site c.requires.place)

pub returns-then-not-is_reached : goal.returns-then-not-is_reached
returns-then-not-is_reached c =
    none_unreached c.args.scene.now.classes.now (map declared_at c.args.scene.now.places.now) c.args.scene.now.system.now c.args.scene.now.solution.now (record { 0 = c.args.number }) c.args.call.now
    c.args.place c.is_reached.result c.requires.solved c.requires.site c.requires.place c.is_reached.ensures c.if-not-is_reached.true

pub returns : goal.returns
returns c =
    first_by c.args.scene.now.classes.now (map declared_at c.args.scene.now.places.now) c.args.scene.now.system.now c.args.scene.now.solution.now (record { 0 = c.args.number }) c.args.call.now
    c.args.place c.targets_at.result.now c.is_reached.result c.has_native-native.result c.is_dynamic-dynamic.result c.refused_at.result c.requires.solved c.requires.site c.requires.place
    c.is_reached.ensures c.if-not-is_reached.false c.targets_at.ensures c.has_native-native.ensures c.is_dynamic-dynamic.ensures c.refused_at.ensures
