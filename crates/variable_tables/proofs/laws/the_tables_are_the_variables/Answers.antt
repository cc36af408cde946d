use Rattle.variable_tables.proofs.Meanings.{some_names}
use Rattle.variable_tables.proofs.laws.the_tables_are_the_variables.Goals as goal

pub returns : goal.returns
returns c = λ p ns t asked foreign tables. some_names p asked ns foreign t tables
