use Rattle.std.specs.Prelude.{take}
use Rattle.worklists.specs.Growth.{FromOne}
use Rattle.program_form.specs.Programs.{Program}
use Rattle.access_tables.specs.Tables.{AddsAccesses, HasAccess, HasBody, HasOwnNodes, IsAccessPoint}
use Rattle.access_tables.proofs.table.add_points.Given as goal

abbrev pub invariant-loop-point : goal.invariant-loop-point
invariant-loop-point l = (p : Program) → HasBody p l.scene.method.system.now l.scene.method.body.now → HasOwnNodes l.scene.ground.row.now l.scene.method.body.now →
    AddsAccesses l.initial.accesses.items l.accesses.items (FromOne (IsAccessPoint l.scene.method.body.now.method) (take l.point-index l.point-items)) (HasAccess p l.scene.method.system.now l.scene.ground.first l.scene.ground.row.now)
