use Rattle.std.proofs.Common.{[]}
use Rattle.tabulate.specs.Found.{Got}
use Rattle.tabulate.proofs.ModeEdges.{level_of}
use Rattle.tabulate.proofs.PathLaws.{whole}
use Rattle.tabulate.proofs.laws.done_searches_are_whole.Goals as goal

pub returns : goal.returns
returns c = λ p mode h ts rows done n e x path found. whole p mode h [] rows (Got p ts) (λ _. ⊥) done (λ q w. w) x (level_of p mode n e path) found
