use Rattle.std.proofs.Common.{List, [], refl, sym, subst, arith}
use Rattle.std.specs.Prelude.{map, Contains}
use Rattle.worklists.specs.Growth.{Grows, FromOne}
use Rattle.worklists.proofs.Growing.{Grows-none, Grows-each, of_whole}
use Rattle.class_form.specs.declared.body.Body.{Body}
use Rattle.signature_tables.specs.declared.texts.Texts.{Texts}
use Rattle.signature_tables.specs.TextPairs.{pair_of}
use Rattle.signature_tables.specs.Statements.{BodyNames}
use Rattle.signature_tables.proofs.NamedGrowth.{by_bodies}
use Rattle.signature_tables.proofs.naming.all_named.Goals as goal

pub loop-body-init : goal.loop-body-init
loop-body-init c = λ p of e.
    subst (λ (zs : List Texts). Grows [] (map pair_of zs) (FromOne (BodyNames c.args.wanted p) [])) (sym c.new-texts.ensures.items)
    (Grows-none [] (FromOne (BodyNames c.args.wanted p) []) (λ nd f. absurd (omega (arith, f.1.1))))

pub loop-body-preserved : goal.loop-body-preserved
loop-body-preserved c = λ p of e.
    let x = c.body-item.result in
    let among : Contains c.args.bodies.now x = (c.loop-body.body-index, c.loop-body-test.true, sym c.body-item.is) in
    let has : Contains p.bodies x = subst (λ (bs : List Body). Contains bs x) (sym e) among in
    Grows-each (BodyNames c.args.wanted p) c.args.bodies.now c.loop-body.body-index x [] (map pair_of c.loop-body.texts.items) (map pair_of c.push_body.new.texts.items)
    c.loop-body-test.true c.body-item.is (c.loop-body.invariant p of e) (c.in_ok-push_body.ensures p of has)

pub push_body-requires : goal.push_body-requires
push_body-requires c =
    let (p, of, e) = c.requires.bodies in
    let x = c.body-item.result in
    let among : Contains c.args.bodies.now x = (c.loop-body.body-index, c.loop-body-test.true, sym c.body-item.is) in
    record { body = (p, of, subst (λ (bs : List Body). Contains bs x) (sym e) among) }

pub returns : goal.returns
returns c = λ p of e nd.
    let whole = of_whole (BodyNames c.args.wanted p) c.args.bodies.now c.loop-body.body-index [] (map pair_of c.loop-body.texts.items) refl c.loop-body-test.false (c.loop-body.invariant p of e) nd in
    let by = by_bodies c.args.wanted p c.args.bodies.now nd e in
    (λ has. by.0 (whole.0 has), λ names. whole.1 (by.1 names))
