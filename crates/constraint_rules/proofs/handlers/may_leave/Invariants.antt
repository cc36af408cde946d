use Rattle.constraint_rules.specs.Handlers.{IsAllCaughtIn}
use Rattle.constraint_rules.proofs.Passing.{HoldsOfNone}
use Rattle.constraint_rules.proofs.handlers.may_leave.Given as goal

abbrev pub invariant-loop-attribute : goal.invariant-loop-attribute
invariant-loop-attribute l = HoldsOfNone (IsAllCaughtIn l.x.point.now.pc) l.attribute-items l.attribute-index
