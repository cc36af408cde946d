use Rattle.std.proofs.Common.{inl, inr, refl}
use Rattle.std.proofs.lemmas.Result.{on_ok_weaker}
use Rattle.explainers.proofs.Bringings.{failed}
use Rattle.explainers.proofs.explain.keep_statement.Goals as goal

pub returns-then-holds : goal.returns-then-holds
returns-then-holds c = on_ok_weaker c.push_statement.result (λ e. inl (c.has_one_of-holds.ensures.0 c.if-holds.true, e)) c.push_statement.ensures

pub returns-else-holds : goal.returns-else-holds
returns-else-holds c = inr (λ p. failed c.has_one_of-holds.result c.if-holds.false (c.has_one_of-holds.ensures.1 p), refl)
