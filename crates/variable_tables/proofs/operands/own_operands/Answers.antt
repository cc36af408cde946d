use Rattle.std.proofs.Common.{List, [], refl, sym, subst, Contains}
use Rattle.std.proofs.lemmas.List.Elements.{All-contains}
use Rattle.class_form.specs.declared.body.Body.{Body}
use Rattle.worklists.specs.Growth.{FromOne}
use Rattle.variable_tables.specs.Growth.{GrowsBut}
use Rattle.variable_tables.specs.Statements.{IsFollowed}
use Rattle.variable_tables.specs.Members.{MethodRises}
use Rattle.variable_tables.specs.Operands.{OperandBefore, HasDefinition, IsRead, IsReadThere}
use Rattle.variable_tables.specs.declared.tables.OperandPlace.{OperandPlace}
use Rattle.variable_tables.proofs.InOrder.{grows_rising, grows_start, grows_same, from_whole, from_nothing}
use Rattle.variable_tables.proofs.Orders.{bodies_rise}
use Rattle.variable_tables.proofs.OperandFacts.{read_to, read_from}
use Rattle.variable_tables.proofs.operands.own_operands.Goals as goal

pub loop-body-init : goal.loop-body-init
loop-body-init c = λ p of e.
    let R = λ (b : Body). FromOne (IsReadThere p b) b.shape.points in
    subst (λ zs. GrowsBut OperandBefore (HasDefinition p c.args.methods.now) [] zs (FromOne R [])) (sym c.new-operands.ensures.items)
    (grows_start OperandBefore (HasDefinition p c.args.methods.now) R [])

pub push_body-requires : goal.push_body-requires
push_body-requires c =
    let (p, of, e) = c.requires.program in
    let x = c.body-item.result in
    let among : Contains c.args.bodies.now x = (c.loop-body.body-index, c.loop-body-test.true, sym c.body-item.is) in
    record {
      order = c.requires.order;
      has = (p, of, subst (λ (bs : List Body). Contains bs x) (sym e) among);
      body = All-contains IsFollowed c.args.bodies.now x c.requires.bodies.followed among;
    }

pub loop-body-preserved : goal.loop-body-preserved
loop-body-preserved c = λ p of e.
    let R = λ (b : Body). FromOne (IsReadThere p b) b.shape.points in
    let x = c.body-item.result in
    let among : Contains c.args.bodies.now x = (c.loop-body.body-index, c.loop-body-test.true, sym c.body-item.is) in
    grows_rising OperandBefore (HasDefinition p c.args.methods.now) MethodRises R c.args.bodies.now c.loop-body.body-index x
    [] c.loop-body.operands.items c.push_body.new.operands.items c.requires.bodies.order (bodies_rise p) c.loop-body-test.true c.body-item.is (c.loop-body.invariant p of e)
    (c.in_ok-push_body.ensures p of (subst (λ (bs : List Body). Contains bs x) (sym e) among))

pub returns : goal.returns
returns c = λ p of e.
    let R : Body → OperandPlace → Type 0 = λ (b : Body). FromOne (IsReadThere p b) b.shape.points in
    let D = HasDefinition p c.args.methods.now in
    let whole = from_whole OperandBefore D R c.args.bodies.now c.loop-body.body-index [] c.loop-body.operands.items c.loop-body-test.false (c.loop-body.invariant p of e) in
    from_nothing OperandBefore D [] c.loop-body.operands.items (IsRead p) refl
    (grows_same OperandBefore D [] c.loop-body.operands.items (FromOne R c.args.bodies.now) (IsRead p) D (read_to p of.read c.args.bodies.now e) (read_from p of.read c.args.bodies.now e) (λ k r d. d) (λ k r d. d) whole)
