use Rattle.session_form.proofs.OneAnswer.{one_answer}
use Rattle.session_form.proofs.laws.one_answer.Goals as goal

pub returns : goal.returns
returns g = λ f before c a b s t h k. one_answer f c before a b s t h k
