use Rattle.std.proofs.Common.{[]}
use Rattle.std.specs.Prelude.{take}
use Rattle.worklists.specs.Growth.{Grows, FromOne}
use Rattle.variable_tables.specs.Statements.{IsPcOfAttribute}
use Rattle.variable_tables.proofs.handlers.all_handlers.Given as goal

abbrev pub invariant-loop-attribute : goal.invariant-loop-attribute
invariant-loop-attribute l = Grows [] l.pcs.items (FromOne IsPcOfAttribute (take l.attribute-index l.attribute-items))
