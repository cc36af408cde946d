use Rattle.constraint_rules.specs.Handlers.{IsCatchAll}
use Rattle.constraint_rules.proofs.Passing.{HoldsOfNone}
use Rattle.constraint_rules.proofs.handlers.catch_all.Given as goal

abbrev pub invariant-loop-handler : goal.invariant-loop-handler
invariant-loop-handler l = HoldsOfNone (IsCatchAll l.pc) l.handlers l.handler-index
