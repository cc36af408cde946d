use Rattle.std.specs.Prelude.{Contains}
use Rattle.dep_form.specs.Summaries.{PathEdges}
use Rattle.dep_form.proofs.Sizes.{one_length}
use Rattle.dep_form.proofs.laws.path_edges_have_one_size.Goals as goal

pub returns : goal.returns
returns c = λ f asked exits xs ys p q. one_length (PathEdges f (Contains asked) (Contains exits)) xs ys p q
