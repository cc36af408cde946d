use Rattle.class_form.proofs.ShapeLaws.{one_shape}
use Rattle.class_form.proofs.laws.one_shape.Goals as goal

pub returns : goal.returns
returns c = λ body instrs arguments s t are. one_shape body instrs are arguments s t
