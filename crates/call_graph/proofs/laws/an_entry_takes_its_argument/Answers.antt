use Rattle.call_graph.proofs.Arguments.{takes_one}
use Rattle.call_graph.proofs.laws.an_entry_takes_its_argument.Goals as goal

pub returns : goal.returns
returns c = takes_one
