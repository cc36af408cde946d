use Rattle.std.proofs.Common.{◌∙◌, sym}
use Rattle.checked_facts.specs.Checks.{method_at}
use Rattle.checked_facts.proofs.nodes.is_formal_in.Goals as goal

pub returns-in-Some : goal.returns-in-Some
returns-in-Some c = λ t. (method_at c.args.m, c.in-Some.node, c.in-Some.ensures, sym c.is_formal.ensures ∙ t)
