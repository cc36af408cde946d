use Rattle.body_form.proofs.OneBody.{one_fault, no_body}
use Rattle.body_form.proofs.laws.one_fault.Goals as goal

pub returns-clause-one : goal.returns-clause-one
returns-clause-one c = one_fault

pub returns-clause-no_body : goal.returns-clause-no_body
returns-clause-no_body c = no_body
