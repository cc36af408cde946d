use Rattle.std.proofs.Common.{◌<◌, List, [], refl, sym, subst, ◌∙◌, arith}
use Rattle.std.specs.Prelude.{Contains, AllPairs}
use Rattle.std.proofs.lemmas.List.{take_all}
use Rattle.worklists.specs.Growth.{FromOne}
use Rattle.class_form.specs.declared.body.Point.{Point}
use Rattle.signature_tables.specs.Statements.{statement}
use Rattle.site_tables.specs.Tables.{Adds, IsMadeAt}
use Rattle.site_tables.proofs.Adding.{adds_none}
use Rattle.site_tables.proofs.WholeTable.{adds_point}
use Rattle.site_tables.proofs.table.push_body.Goals as goal

pub loop-point-init : goal.loop-point-init
loop-point-init c = λ p of has. adds_none p c.args.table.now (FromOne (λ (q : Point). IsMadeAt p (statement c.args.body.now q.pc)) []) (λ h f. absurd (omega (arith, f.1.1)))

pub loop-point-preserved : goal.loop-point-preserved
loop-point-preserved c = λ p of has.
    let items = c.items-point-items.result.now in
    let x = c.point-item.result in
    let among : Contains items x = (c.loop-point.point-index, c.loop-point-test.true, sym c.point-item.is) in
    let point : Contains c.args.body.now.shape.points x = subst (λ (xs : List Point). Contains xs x) c.items-point-items.ensures among in
    adds_point p c.args.body.now items c.loop-point.point-index x c.args.table.now c.loop-point.table c.push_statement.new.table
    (subst (λ (xs : List Point). AllPairs (λ (q : Point) (r : Point). q.pc < r.pc) xs) (sym c.items-point-items.ensures) c.requires.points) c.loop-point-test.true c.point-item.is
    (c.loop-point.invariant p of has) (c.in_ok-push_statement.ensures p x of has (point, refl))

pub returns : goal.returns
returns c = λ p of has.
    let items = c.items-point-items.result.now in
    subst (λ (ys : List Point). Adds p c.args.table.now c.loop-point.table (FromOne (λ (q : Point). IsMadeAt p (statement c.args.body.now q.pc)) ys))
    (take_all c.loop-point.point-index items c.loop-point-test.false ∙ c.items-point-items.ensures) (c.loop-point.invariant p of has)
