use Rattle.std.proofs.Common.{sym, ◌∙◌}
use Rattle.std.proofs.lemmas.Bool.{false≢true}
use Rattle.input_tables.proofs.ExitEdges.{leaving_is}
use Rattle.input_tables.proofs.exits.leaving_node.Goals as goal

pub returns-then-is_all_caught : goal.returns-then-is_all_caught
returns-then-is_all_caught c = λ k. (λ e. absurd (cc e), λ h. absurd (h.0 (c.is_all_caught.ensures.0 c.if-is_all_caught.true)))

pub returns-else-is_all_caught : goal.returns-else-is_all_caught
returns-else-is_all_caught c = leaving_is c.args.handlers.now c.args.op c.args.pc c.raised_node.result (λ h. false≢true (sym c.if-is_all_caught.false ∙ c.is_all_caught.ensures.1 h)) c.raised_node.ensures
