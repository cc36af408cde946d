-- What look-ups in the tables of variables go by.
use Rattle.std.specs.Prelude.{All, AllPairs}
use Rattle.std.specs.declared.cmp.Ordering.{Ordering}
use Rattle.std.specs.Ordering.{nat_cmp, ordering_then}
use Rattle.slicer_ids.specs.Order.{StatementBefore}
use Rattle.dep_form.specs.Orders.{statement_cmp}
use Rattle.variable_tables.specs.Numbers.{keys_of}
use Rattle.variable_tables.specs.Operands.{AreInOrder, OperandBefore}
use Rattle.variable_tables.specs.declared.tables.OperandPlace.{OperandPlace}
use Rattle.variable_tables.specs.declared.tables.VariableTables.{VariableTables}

abbrev pub place_cmp : OperandPlace → OperandPlace → Ordering
place_cmp a b = ordering_then (statement_cmp a.statement b.statement) (nat_cmp a.operand b.operand)

-- each table is in order of its keys
pub record AreOrdered (t : VariableTables) : Type 0 where
  pub methods : All AreInOrder t.methods
  pub exceptions : AllPairs StatementBefore (keys_of t.exceptions)
  pub operands : AllPairs OperandBefore (keys_of t.operands)
