use Rattle.std.proofs.Common.{◌≡◌, ◌<◌, List, Contains, AllPairs, sym, subst, ◌∙◌}
use Rattle.std.proofs.lemmas.List.{take_all}
use Rattle.slicer_ids.specs.declared.ids.SiteId.{SiteId}
use Rattle.slicer_ids.specs.declared.ids.Statement.{Statement}
use Rattle.class_form.specs.declared.body.Point.{Point}
use Rattle.fact_form.specs.ValueNumbers.{ValueSite}
use Rattle.worklists.specs.Growth.{FromOne}
use Rattle.value_tables.specs.Tables.{AddsValues, IsAtPoint}
use Rattle.value_tables.proofs.Tabled.{no_points, point_more}
use Rattle.value_tables.proofs.table.add_points.Goals as goal

pub loop-point-init : goal.loop-point-init
loop-point-init c = λ p of among.
    no_points p c.args.x.now c.requires c.items-point-items.result.now (subst (λ (qs : List Point). AllPairs (λ (a b : Point). a.pc < b.pc) qs) (sym c.items-point-items.ensures) c.requires.points) c.args.values.now.items

pub loop-point-preserved : goal.loop-point-preserved
loop-point-preserved c = λ p of among.
    let x = c.args.x.now in
    let items = c.items-point-items.result.now in
    let q = c.point-item.result in
    let here : Contains items q = (c.loop-point.point-index, c.loop-point-test.true, sym c.point-item.is) in
    let has : Contains x.body.now.shape.points q = subst (λ (qs : List Point). Contains qs q) c.items-point-items.ensures here in
    let step = subst (λ (z : Point). AddsValues c.loop-point.values.items c.add_point.new.values.items (IsAtPoint x.body.now.method z) (ValueSite p x.system.now)) c.point-item.is (c.in_ok-add_point.ensures p of among has) in
    point_more p x c.requires items (subst (λ (qs : List Point). AllPairs (λ (a b : Point). a.pc < b.pc) qs) (sym c.items-point-items.ensures) c.requires.points) c.args.values.now.items
    c.loop-point.point-index q c.loop-point.values.items c.add_point.new.values.items c.loop-point-test.true (c.loop-point.invariant p of among) step

pub returns : goal.returns
returns c = λ p of among.
    let x = c.args.x.now in
    subst (λ (qs : List Point). AddsValues c.args.values.now.items c.loop-point.values.items (FromOne (IsAtPoint x.body.now.method) qs) (ValueSite p x.system.now))
    (take_all c.loop-point.point-index c.items-point-items.result.now c.loop-point-test.false ∙ c.items-point-items.ensures) (c.loop-point.invariant p of among)
