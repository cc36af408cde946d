use Rattle.std.proofs.Common.{◌<◌, List, map, Contains, sym, subst}
use Rattle.slicer_ids.specs.Order.{StatementBefore}
use Rattle.worklists.specs.Growth.{FromOne}
use Rattle.class_form.specs.declared.body.Point.{Point}
use Rattle.variable_tables.specs.Growth.{GrowsInOrder}
use Rattle.variable_tables.specs.Statements.{ArePoints}
use Rattle.variable_tables.proofs.InOrder.{grows_rising, grows_start, from_whole}
use Rattle.constraint_rules.specs.Settings.{place_of}
use Rattle.constraints.specs.Places.{IsPlaceAt}
use Rattle.constraints.proofs.OfPlaces.{points_rise}
use Rattle.constraints.proofs.places.push_body.Goals as goal

pub loop-point-init : goal.loop-point-init
loop-point-init c = record {
  order = grows_start StatementBefore (λ t. ⊥) (IsPlaceAt c.args.body.now) (map place_of c.args.places.now.items);
  each = λ bodies has all. all;
}

pub push_point-requires : goal.push_point-requires
push_point-requires c =
    let items = c.items-point-items.result.now in
    let x = c.point-item.result in
    let among : Contains items x = (c.loop-point.point-index, c.loop-point-test.true, sym c.point-item.is) in
    record { body = c.requires.body; point = subst (λ (ps : List Point). Contains ps x) c.items-point-items.ensures among }

pub loop-point-preserved : goal.loop-point-preserved
loop-point-preserved c =
    let items = c.items-point-items.result.now in
    record {
      order = grows_rising StatementBefore (λ t. ⊥) (λ (p q : Point). p.pc < q.pc) (IsPlaceAt c.args.body.now) items c.loop-point.point-index c.point-item.result
          (map place_of c.args.places.now.items) (map place_of c.loop-point.places.items) (map place_of c.push_point.new.places.items)
          (subst ArePoints (sym c.items-point-items.ensures) c.requires.followed.flow.order) (points_rise c.args.body.now) c.loop-point-test.true c.point-item.is
          c.loop-point.invariant.order c.in_ok-push_point.ensures.order;
      each = λ bodies has all. c.in_ok-push_point.ensures.each bodies has c.requires.followed (c.loop-point.invariant.each bodies has all);
    }

pub returns-clause-order : goal.returns-clause-order
returns-clause-order c =
    let old = map place_of c.args.places.now.items in
    let new = map place_of c.loop-point.places.items in
    subst (λ (ps : List Point). GrowsInOrder StatementBefore old new (FromOne (IsPlaceAt c.args.body.now) ps)) c.items-point-items.ensures
    (from_whole StatementBefore (λ t. ⊥) (IsPlaceAt c.args.body.now) c.items-point-items.result.now c.loop-point.point-index old new c.loop-point-test.false c.loop-point.invariant.order)

pub returns-clause-each : goal.returns-clause-each
returns-clause-each c = λ bodies has all. c.loop-point.invariant.each bodies has all
