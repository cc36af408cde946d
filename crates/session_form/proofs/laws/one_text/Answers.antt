use Rattle.session_form.proofs.OneScript.{one_text}
use Rattle.session_form.proofs.laws.one_text.Goals as goal

pub returns : goal.returns
returns c = λ f script a b h k. one_text f script a b h k
