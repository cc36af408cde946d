use Rattle.std.proofs.Common.{◌≡◌, [], List, Contains, refl, sym, subst, ◌∙◌}
use Rattle.std.proofs.lemmas.List.{take_all}
use Rattle.slicer_ids.specs.declared.ids.SiteId.{SiteId}
use Rattle.slicer_ids.specs.declared.ids.Statement.{Statement}
use Rattle.class_form.specs.declared.body.Body.{Body}
use Rattle.fact_form.specs.FactTables.{AreValues}
use Rattle.fact_form.specs.ValueNumbers.{ValueSite}
use Rattle.worklists.specs.Growth.{FromOne}
use Rattle.value_tables.specs.Tables.{AddsValues, RunsInBody}
use Rattle.value_tables.proofs.Tabled.{as_own, body_more, no_bodies, values_are}
use Rattle.value_tables.proofs.table.value_table.Goals as goal

pub loop-body-init : goal.loop-body-init
loop-body-init c = λ p of. no_bodies p c.args.s.now c.args.bodies.now of c.new-values.result.items c.new-values.ensures.items

pub add_body-requires-clause-program : goal.add_body-requires-clause-program
add_body-requires-clause-program c =
    let (p, of) = c.requires.program in
    (p, as_own c.args.bodies.now c.args.s.now p of, subst (λ (bs : List Body). Contains bs c.body-item.result) (sym of.bodies_are) (c.loop-body.body-index, c.loop-body-test.true, sym c.body-item.is))

pub add_body-requires-clause-few : goal.add_body-requires-clause-few
add_body-requires-clause-few c = c.are_few.ensures c.if-not-are_few.false

pub loop-body-preserved : goal.loop-body-preserved
loop-body-preserved c = λ p of.
    let b = c.body-item.result in
    let among = subst (λ (bs : List Body). Contains bs b) (sym of.bodies_are) (c.loop-body.body-index, c.loop-body-test.true, sym c.body-item.is) in
    let step = subst (λ (z : Body). AddsValues c.loop-body.values.items c.add_body.new.values.items (RunsInBody c.args.s.now z) (ValueSite p c.args.s.now)) c.body-item.is (c.in_ok-add_body.ensures p (as_own c.args.bodies.now c.args.s.now p of) among) in
    body_more p c.args.s.now c.args.bodies.now of c.loop-body.body-index b c.loop-body.values.items c.add_body.new.values.items c.loop-body-test.true (c.loop-body.invariant p of) step

pub returns : goal.returns
returns c = λ p of.
    subst (AreValues p c.args.s.now) (sym c.from_vec.ensures) (values_are p c.args.s.now c.args.bodies.now of c.loop-body.values.items
    (subst (λ (bs : List Body). AddsValues [] c.loop-body.values.items (FromOne (RunsInBody c.args.s.now) bs) (ValueSite p c.args.s.now)) (take_all c.loop-body.body-index c.args.bodies.now c.loop-body-test.false) (c.loop-body.invariant p of)))
