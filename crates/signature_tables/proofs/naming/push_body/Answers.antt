use Rattle.std.proofs.Common.{List, refl, sym, subst, ◌∙◌, arith}
use Rattle.std.specs.Prelude.{map, Contains}
use Rattle.std.proofs.lemmas.List.{take_all}
use Rattle.worklists.specs.Growth.{Grows, FromOne}
use Rattle.worklists.proofs.Growing.{Grows-none, Grows-each}
use Rattle.class_form.specs.declared.body.Point.{Point}
use Rattle.signature_tables.specs.TextPairs.{pair_of}
use Rattle.signature_tables.specs.Statements.{NamesTexts, statement}
use Rattle.signature_tables.proofs.naming.push_body.Goals as goal

pub loop-point-init : goal.loop-point-init
loop-point-init c = λ p of has. Grows-none (map pair_of c.args.texts.now.items) _ (λ nd f. absurd (omega (arith, f.1.1)))

pub loop-point-preserved : goal.loop-point-preserved
loop-point-preserved c = λ p of has.
    let items = c.items-point-items.result.now in
    let x = c.point-item.result in
    let among : Contains items x = (c.loop-point.point-index, c.loop-point-test.true, sym c.point-item.is) in
    let point : Contains c.args.body.now.shape.points x = subst (λ (xs : List Point). Contains xs x) c.items-point-items.ensures among in
    Grows-each (λ (q : Point). NamesTexts c.args.wanted p (statement c.args.body.now q.pc)) items c.loop-point.point-index x
    (map pair_of c.args.texts.now.items) (map pair_of c.loop-point.texts.items) (map pair_of c.push_named.new.texts.items)
    c.loop-point-test.true c.point-item.is (c.loop-point.invariant p of has) (c.in_ok-push_named.ensures p x of has (point, refl))

pub returns : goal.returns
returns c = λ p of has.
    let items = c.items-point-items.result.now in
    subst (λ (ys : List Point). Grows (map pair_of c.args.texts.now.items) (map pair_of c.loop-point.texts.items) (FromOne (λ (q : Point). NamesTexts c.args.wanted p (statement c.args.body.now q.pc)) ys))
    (take_all c.loop-point.point-index items c.loop-point-test.false ∙ c.items-point-items.ensures) (c.loop-point.invariant p of has)
