-- What produces the object or array of an access, by the edges to it.
use Rattle.std.specs.Prelude.{◌≡◌}
use Rattle.slicer_ids.specs.declared.ids.NodeId.{NodeId}
use Rattle.class_form.specs.declared.body.Point.{Point}
use Rattle.class_form.specs.declared.body.SlotUse.{SlotUse}
use Rattle.dep_form.specs.declared.node.Edge.{Edge}
use Rattle.input_tables.specs.Edges.{IsUseEdge}
use Rattle.worklists.specs.Growth.{FromOne}
use Rattle.access_tables.specs.declared.scene.Scene.{Scene}

abbrev pub start_of : Edge → NodeId
start_of e = e.from

-- an edge to a slot of the first operand
abbrev pub IsObjectEdge : Scene → Point → SlotUse → Edge → Type 0
IsObjectEdge x t u e =
    (u.operand ≡ 0) × IsUseEdge x.ground.points.now x.ground.first x.ground.row.now x.method.body.now.shape t u e

-- where such an edge starts
abbrev pub IsObjectStart : Scene → Point → NodeId → Type 0
IsObjectStart x t n = (e : Edge) × FromOne (IsObjectEdge x t) t.uses e × (n ≡ e.from)
