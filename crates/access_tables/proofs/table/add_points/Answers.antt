use Rattle.std.proofs.Common.{◌<◌, List, Contains, AllPairs, sym, subst, ◌∙◌}
use Rattle.std.proofs.lemmas.List.{take_all}
use Rattle.class_form.specs.declared.body.Point.{Point}
use Rattle.worklists.specs.Growth.{FromOne}
use Rattle.access_tables.specs.Tables.{AddsAccesses, HasAccess, IsAccessPoint}
use Rattle.access_tables.proofs.Accessed.{no_points, point_more}
use Rattle.access_tables.proofs.table.add_points.Goals as goal

pub loop-point-init : goal.loop-point-init
loop-point-init c = λ p of own.
    let x = c.args.scene.now in
    no_points (HasAccess p x.method.system.now x.ground.first x.ground.row.now) x.method.body.now.method c.items-point-items.result.now c.args.accesses.now.items

pub loop-point-preserved : goal.loop-point-preserved
loop-point-preserved c = λ p of own.
    let x = c.args.scene.now in
    let items = c.items-point-items.result.now in
    let q = c.point-item.result in
    let here : Contains items q = (c.loop-point.point-index, c.loop-point-test.true, sym c.point-item.is) in
    let has : Contains x.method.body.now.shape.points q = subst (λ (qs : List Point). Contains qs q) c.items-point-items.ensures here in
    let step = subst (λ (z : Point). AddsAccesses c.loop-point.accesses.items c.add_point.new.accesses.items (IsAccessPoint x.method.body.now.method z) (HasAccess p x.method.system.now x.ground.first x.ground.row.now)) c.point-item.is (c.in_ok-add_point.ensures p of own has) in
    point_more (HasAccess p x.method.system.now x.ground.first x.ground.row.now) x.method.body.now.method items (subst (λ (qs : List Point). AllPairs (λ (a b : Point). a.pc < b.pc) qs) (sym c.items-point-items.ensures) c.requires.method.points)
    c.loop-point.point-index q c.args.accesses.now.items c.loop-point.accesses.items c.add_point.new.accesses.items c.loop-point-test.true (c.loop-point.invariant p of own) step

pub returns : goal.returns
returns c = λ p of own.
    let x = c.args.scene.now in
    subst (λ (qs : List Point). AddsAccesses c.args.accesses.now.items c.loop-point.accesses.items (FromOne (IsAccessPoint x.method.body.now.method) qs) (HasAccess p x.method.system.now x.ground.first x.ground.row.now))
    (take_all c.loop-point.point-index c.items-point-items.result.now c.loop-point-test.false ∙ c.items-point-items.ensures) (c.loop-point.invariant p of own)
