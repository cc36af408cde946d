use Rattle.std.proofs.Common.{List, refl, sym, subst}
use Rattle.std.specs.Prelude.{◌↔◌, IsTrue, Contains}
use Rattle.class_form.specs.declared.class_file.Attribute.{Attribute}
use Rattle.constraint_rules.specs.Handlers.{IsAllCaughtIn}
use Rattle.constraint_rules.proofs.OfThrown.{stays, leaves}
use Rattle.constraint_rules.proofs.Passing.{one_passed, all_passed}
use Rattle.constraint_rules.proofs.handlers.may_leave.Goals as goal

pub loop-attribute-preserved : goal.loop-attribute-preserved
loop-attribute-preserved c =
    one_passed (IsAllCaughtIn c.args.x.now.point.now.pc) c.items-attribute-items.result.now c.loop-attribute.attribute-index c.catches_all.result c.attribute-item.result c.loop-attribute-test.true c.if-catches_all.false
    (subst (λ (a : Attribute). IsTrue c.catches_all.result ↔ IsAllCaughtIn c.args.x.now.point.now.pc a) c.attribute-item.is (c.catches_all.ensures c.attribute-item.result refl)) c.loop-attribute.invariant

pub returns-then-catches_all : goal.returns-then-catches_all
returns-then-catches_all c = λ p placed. (
  λ e. absurd (cc e),
  λ may. absurd (stays c.args.x.now p placed c.attribute-item.result
      (subst (λ (xs : List Attribute). Contains xs c.attribute-item.result) c.items-attribute-items.ensures (c.loop-attribute.attribute-index, c.loop-attribute-test.true, sym c.attribute-item.is))
      ((c.catches_all.ensures c.attribute-item.result refl).0 c.if-catches_all.true) may),
)

pub returns : goal.returns
returns c = λ p placed. (
  λ e. leaves c.args.x.now p placed (λ a has. all_passed (IsAllCaughtIn c.args.x.now.point.now.pc) c.items-attribute-items.result.now c.loop-attribute.attribute-index c.loop-attribute-test.false
      c.loop-attribute.invariant a (subst (λ (xs : List Attribute). Contains xs a) (sym c.items-attribute-items.ensures) has)),
  λ may. refl,
)
