use Rattle.std.proofs.Common.{[], refl, sym, subst, Contains}
use Rattle.std.proofs.lemmas.List.Elements.{All-contains}
use Rattle.slicer_ids.specs.Order.{StatementBefore}
use Rattle.class_form.specs.declared.body.Body.{Body}
use Rattle.worklists.specs.Growth.{FromOne}
use Rattle.signature_tables.specs.Statements.{AreInOrder}
use Rattle.variable_tables.specs.Growth.{GrowsInOrder}
use Rattle.variable_tables.specs.Statements.{IsFollowed}
use Rattle.variable_tables.specs.Members.{MethodRises, IsCallIn}
use Rattle.variable_tables.proofs.InOrder.{grows_rising, grows_start, from_whole, from_nothing, chosen_all}
use Rattle.variable_tables.proofs.Orders.{calls_rise}
use Rattle.variable_tables.proofs.calls.calls_of.Goals as goal

pub loop-body-init : goal.loop-body-init
loop-body-init c =
    subst (λ zs. GrowsInOrder StatementBefore [] zs (FromOne IsCallIn [])) (sym c.new-calls.ensures.items) (grows_start StatementBefore (λ x. ⊥) IsCallIn [])

pub loop-body-preserved : goal.loop-body-preserved
loop-body-preserved c =
    grows_rising StatementBefore (λ x. ⊥) MethodRises IsCallIn c.args.bodies.now c.loop-body.body-index c.body-item.result
    [] c.loop-body.calls.items c.push_body.new.calls.items c.requires.order calls_rise c.loop-body-test.true c.body-item.is c.loop-body.invariant c.in_ok-push_body.ensures

pub push_body-requires : goal.push_body-requires
push_body-requires c =
    let x = c.body-item.result in
    let among : Contains c.args.bodies.now x = (c.loop-body.body-index, c.loop-body-test.true, sym c.body-item.is) in
    record {
      instrs = All-contains (λ (b : Body). AreInOrder b.instrs) c.args.bodies.now x c.requires.instrs among;
      points = (All-contains IsFollowed c.args.bodies.now x c.requires.followed among).flow.order;
    }

pub returns : goal.returns
returns c =
    chosen_all StatementBefore c.loop-body.calls.items (FromOne IsCallIn c.args.bodies.now)
    (from_nothing StatementBefore (λ x. ⊥) [] c.loop-body.calls.items (FromOne IsCallIn c.args.bodies.now) refl
    (from_whole StatementBefore (λ x. ⊥) IsCallIn c.args.bodies.now c.loop-body.body-index [] c.loop-body.calls.items c.loop-body-test.false c.loop-body.invariant))
