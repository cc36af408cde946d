use Rattle.std.proofs.Common.{sym, ◌∙◌}
use Rattle.std.proofs.lemmas.Bool.{false≢true}
use Rattle.input_tables.proofs.ExitEdges.{return_is}
use Rattle.input_tables.proofs.exits.return_node.Goals as goal

pub returns-then-is_value_return : goal.returns-then-is_value_return
returns-then-is_value_return c = return_is c.args.op c.args.pc (c.is_value_return.ensures.0 c.if-is_value_return.true)

pub returns-else-is_value_return : goal.returns-else-is_value_return
returns-else-is_value_return c = λ k. (λ e. absurd (cc e), λ h. absurd (false≢true (sym c.if-is_value_return.false ∙ c.is_value_return.ensures.1 h.0)))
