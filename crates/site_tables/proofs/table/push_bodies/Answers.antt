use Rattle.std.proofs.Common.{◌<◌, List, [], sym, subst, arith}
use Rattle.std.specs.Prelude.{Contains, AllPairs}
use Rattle.std.proofs.lemmas.List.{take_all}
use Rattle.std.proofs.lemmas.List.Elements.{All-contains}
use Rattle.worklists.specs.Growth.{FromOne}
use Rattle.class_form.specs.declared.body.Body.{Body}
use Rattle.site_tables.specs.Tables.{Adds, IsMadeIn, ArePointsInOrder}
use Rattle.site_tables.proofs.Adding.{adds_none}
use Rattle.site_tables.proofs.WholeTable.{adds_body}
use Rattle.site_tables.proofs.table.push_bodies.Goals as goal

pub loop-body-init : goal.loop-body-init
loop-body-init c = λ p of e. adds_none p c.args.table.now (FromOne (IsMadeIn p) []) (λ h f. absurd (omega (arith, f.1.1)))

pub push_body-requires : goal.push_body-requires
push_body-requires c =
    let (p, of, e) = c.requires.bodies in
    let x = c.body-item.result in
    let among : Contains c.args.bodies.now x = (c.loop-body.body-index, c.loop-body-test.true, sym c.body-item.is) in
    record { body = (p, of, subst (λ (bs : List Body). Contains bs x) (sym e) among); points = All-contains ArePointsInOrder c.args.bodies.now x c.requires.points among }

pub loop-body-preserved : goal.loop-body-preserved
loop-body-preserved c = λ p of e.
    let x = c.body-item.result in
    let among : Contains c.args.bodies.now x = (c.loop-body.body-index, c.loop-body-test.true, sym c.body-item.is) in
    let has : Contains p.bodies x = subst (λ (bs : List Body). Contains bs x) (sym e) among in
    adds_body p c.args.bodies.now c.loop-body.body-index x c.args.table.now c.loop-body.table c.push_body.new.table
    (subst (λ (bs : List Body). AllPairs (λ (a : Body) (b : Body). a.method.0 < b.method.0) bs) e of.read.bodies) c.loop-body-test.true c.body-item.is (c.loop-body.invariant p of e) (c.in_ok-push_body.ensures p of has)

pub returns : goal.returns
returns c = λ p of e.
    subst (λ (bs : List Body). Adds p c.args.table.now c.loop-body.table (FromOne (IsMadeIn p) bs)) (take_all c.loop-body.body-index c.args.bodies.now c.loop-body-test.false) (c.loop-body.invariant p of e)
