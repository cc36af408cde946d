use Rattle.input_tables.specs.Exits.{IsCatchAll}
use Rattle.input_tables.proofs.Passing.{HoldsOfNone}
use Rattle.input_tables.proofs.exits.is_all_caught.Given as goal

abbrev pub invariant-loop-handler : goal.invariant-loop-handler
invariant-loop-handler l = HoldsOfNone (IsCatchAll l.pc) l.handlers l.handler-index
