use Rattle.session_form.proofs.SomePlaces.{statement_told, access_told, line_told}
use Rattle.session_form.proofs.laws.each_place_is_told.Goals as goal

pub returns-clause-statement : goal.returns-clause-statement
returns-clause-statement c = statement_told

pub returns-clause-access : goal.returns-clause-access
returns-clause-access c = access_told

pub returns-clause-line : goal.returns-clause-line
returns-clause-line c = line_told
