use Rattle.std.proofs.lemmas.Bool.{false≢true}
use Rattle.script.proofs.Counting.{first_none}
use Rattle.script.proofs.operands.is_end.Goals as goal

pub returns-in-Some : goal.returns-in-Some
returns-in-Some c = (λ e. absurd (false≢true e), λ all. absurd (first_none c.args.line.now _ _ c.in-Some.ensures all))
