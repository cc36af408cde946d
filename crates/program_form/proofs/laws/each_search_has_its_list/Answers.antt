use Rattle.program_form.proofs.Visiting.{field_visits, method_visits, chains}
use Rattle.program_form.proofs.laws.each_search_has_its_list.Goals as goal

pub returns-clause-fields : goal.returns-clause-fields
returns-clause-fields c = λ classes name acyclic. field_visits classes acyclic name

pub returns-clause-methods : goal.returns-clause-methods
returns-clause-methods c = λ classes name acyclic. method_visits classes acyclic name

pub returns-clause-selections : goal.returns-clause-selections
returns-clause-selections c = λ classes name acyclic. chains classes acyclic name
