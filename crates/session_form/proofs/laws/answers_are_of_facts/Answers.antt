use Rattle.session_form.proofs.OfFacts.{of_facts}
use Rattle.session_form.proofs.laws.answers_are_of_facts.Goals as goal

pub returns : goal.returns
returns c = λ f before command a after listed h. of_facts f listed h
