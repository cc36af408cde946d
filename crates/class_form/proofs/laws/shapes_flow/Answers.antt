use Rattle.class_form.proofs.Flows.{shape_flows}
use Rattle.class_form.proofs.laws.shapes_flow.Goals as goal

pub returns : goal.returns
returns c = λ body instrs arguments s follow are shaped. shape_flows body instrs arguments s shaped are
