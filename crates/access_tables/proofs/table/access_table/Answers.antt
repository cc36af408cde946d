use Rattle.std.proofs.Common.{[], List, Contains, sym, subst}
use Rattle.std.proofs.lemmas.List.{take_all}
use Rattle.class_form.specs.declared.body.Body.{Body}
use Rattle.fact_form.specs.FactTables.{AreAccesses}
use Rattle.worklists.specs.Growth.{FromOne}
use Rattle.value_tables.proofs.Tabled.{as_own}
use Rattle.access_tables.specs.Tables.{AddsAccesses, HasAccessIn, RunsInBody}
use Rattle.access_tables.proofs.Accessed.{accesses_are, body_more, no_bodies}
use Rattle.access_tables.proofs.table.access_table.Goals as goal

pub loop-body-init : goal.loop-body-init
loop-body-init c = λ p mr entries of files are. no_bodies p c.args.s.now c.args.inputs.now c.args.bodies.now of c.new-accesses.result.items c.new-accesses.ensures.items

pub add_body-requires-clause-program : goal.add_body-requires-clause-program
add_body-requires-clause-program c =
    let (p, of) = c.requires.program in
    (p, as_own c.args.bodies.now c.args.s.now p of, subst (λ (bs : List Body). Contains bs c.body-item.result) (sym of.bodies_are) (c.loop-body.body-index, c.loop-body-test.true, sym c.body-item.is))

pub add_body-requires-clause-few : goal.add_body-requires-clause-few
add_body-requires-clause-few c = c.are_few.ensures c.if-not-are_few.false

pub loop-body-preserved : goal.loop-body-preserved
loop-body-preserved c = λ p mr entries of files are.
    let b = c.body-item.result in
    let among = subst (λ (bs : List Body). Contains bs b) (sym of.bodies_are) (c.loop-body.body-index, c.loop-body-test.true, sym c.body-item.is) in
    let step = subst (λ (z : Body). AddsAccesses c.loop-body.accesses.items c.add_body.new.accesses.items (RunsInBody c.args.s.now z) (HasAccessIn p c.args.s.now c.args.inputs.now)) c.body-item.is
    (c.in_ok-add_body.ensures p mr entries (as_own c.args.bodies.now c.args.s.now p of, files, among) are) in
    body_more p c.args.s.now c.args.inputs.now c.args.bodies.now of c.loop-body.body-index b c.loop-body.accesses.items c.add_body.new.accesses.items c.loop-body-test.true (c.loop-body.invariant p mr entries of files are) step

pub returns : goal.returns
returns c = λ p mr entries of files are.
    subst (AreAccesses p c.args.s.now c.args.inputs.now) (sym c.from_vec.ensures) (accesses_are p c.args.s.now c.args.inputs.now c.args.bodies.now of c.loop-body.accesses.items
    (subst (λ (bs : List Body). AddsAccesses [] c.loop-body.accesses.items (FromOne (RunsInBody c.args.s.now) bs) (HasAccessIn p c.args.s.now c.args.inputs.now)) (take_all c.loop-body.body-index c.args.bodies.now c.loop-body-test.false) (c.loop-body.invariant p mr entries of files are)))
