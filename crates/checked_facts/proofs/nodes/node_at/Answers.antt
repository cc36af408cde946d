use Rattle.std.proofs.lemmas.Option.{IfSome_then}
use Rattle.checked_facts.proofs.nodes.node_at.Goals as goal

pub returns-in-Some : goal.returns-in-Some
returns-in-Some c = IfSome_then c.node_of.result c.node_of.ensures (λ k is. (c.in-Some.input.now, c.in-Some.ensures, is))
