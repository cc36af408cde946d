use Rattle.body_form.proofs.OneBody.{one_body}
use Rattle.body_form.proofs.laws.one_body.Goals as goal

pub returns : goal.returns
returns c = λ p number m code a b bytes readable. one_body p number m code bytes readable.size.0 a b
