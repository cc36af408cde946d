use Rattle.std.proofs.Common.{sym, ◌∙◌}
use Rattle.std.proofs.lemmas.Bool.{false≢true}
use Rattle.std.proofs.lemmas.Result.{on_ok_weaker}
use Rattle.input_tables.specs.Edges.{IsUseEdge}
use Rattle.mod_ref.proofs.Gaining.{gains_none, gains_same}
use Rattle.access_tables.specs.Objects.{IsObjectEdge}
use Rattle.access_tables.proofs.objects.add_object.Goals as goal

pub add_use-requires-clause-ground : goal.add_use-requires-clause-ground
add_use-requires-clause-ground c = c.requires.ground

pub add_use-requires-clause-reach : goal.add_use-requires-clause-reach
add_use-requires-clause-reach c = c.requires.method.reach

pub returns-then-is_object : goal.returns-then-is_object
returns-then-is_object c =
    let x = c.args.scene.now in
    on_ok_weaker c.add_use.result
    (λ g. gains_same c.args.edges.now.items c.add_use.new.edges.items (IsUseEdge x.ground.points.now x.ground.first x.ground.row.now x.method.body.now.shape c.args.point.now c.args.slot_use) (IsObjectEdge x c.args.point.now c.args.slot_use)
    (λ e. (λ h. (c.is_object.ensures.0 c.if-is_object.true, h), λ w. w.1)) g) c.add_use.ensures

pub returns-else-is_object : goal.returns-else-is_object
returns-else-is_object c = gains_none c.args.edges.now.items (IsObjectEdge c.args.scene.now c.args.point.now c.args.slot_use) (λ e w. false≢true (sym c.if-is_object.false ∙ c.is_object.ensures.1 w.0))
