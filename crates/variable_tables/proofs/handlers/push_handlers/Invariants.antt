use Rattle.std.specs.Prelude.{take}
use Rattle.worklists.specs.Growth.{Grows, FromOne}
use Rattle.variable_tables.specs.Statements.{IsPcOfHandler}
use Rattle.variable_tables.proofs.handlers.push_handlers.Given as goal

abbrev pub invariant-loop-handler : goal.invariant-loop-handler
invariant-loop-handler l = Grows l.initial.pcs.items l.pcs.items (FromOne IsPcOfHandler (take l.handler-index l.handlers))
