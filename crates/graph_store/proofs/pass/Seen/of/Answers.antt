use Rattle.std.proofs.Common.{rules, refl, sym, ◌∙◌, true≢false}
use Rattle.graph_store.proofs.pass.Seen.of.Goals as goal

pub returns-clause-fits : goal.returns-clause-fits
returns-clause-fits c = (
  c.args.published.now,
  refl,
  (λ same. true≢false (sym (c.is_same_input.ensures.1 same) ∙ c.if-is_same_input.false)),
  c.in_ok-own.ensures,
)
