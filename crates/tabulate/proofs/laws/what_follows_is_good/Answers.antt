use Rattle.bit_rows.specs.Adds.{Taken}
use Rattle.tabulate.specs.Found.{Got, Todo}
use Rattle.tabulate.proofs.PathLaws.{follows_good}
use Rattle.tabulate.proofs.laws.what_follows_is_good.Goals as goal

pub returns : goal.returns
returns c = λ p mode h asked ts n delta es rows new old edges. follows_good p mode h asked rows n delta es (Taken (Got p ts) (Todo p ts)) new (λ q k. old q k.0) edges
