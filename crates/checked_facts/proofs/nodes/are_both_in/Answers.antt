use Rattle.checked_facts.specs.Checks.{method_at}
use Rattle.checked_facts.proofs.nodes.are_both_in.Goals as goal

pub returns-in-Some : goal.returns-in-Some
returns-in-Some c = λ t. let other = c.is_in.ensures t in (method_at c.args.m, c.in-Some._first, other.0, c.in-Some.ensures, other.1)
