use Rattle.std.proofs.Common.{sym, ◌∙◌}
use Rattle.std.proofs.lemmas.Bool.{false≢true}
use Rattle.input_tables.proofs.RowEdges.{call_is, throw_is}
use Rattle.input_tables.proofs.definitions.raised_node.Goals as goal

pub returns-then-is_throw : goal.returns-then-is_throw
returns-then-is_throw c = throw_is c.args.op c.args.pc (c.is_throw.ensures.0 c.if-is_throw.true)

pub returns-else-is_throw : goal.returns-else-is_throw
returns-else-is_throw c = call_is c.args.op c.args.pc c.call_exception.result (λ h. false≢true (sym c.if-is_throw.false ∙ c.is_throw.ensures.1 h)) c.call_exception.ensures
