use Rattle.std.proofs.Common.{sym, ◌∙◌}
use Rattle.std.proofs.lemmas.Bool.{false≢true}
use Rattle.input_lists.proofs.lists.option_of.Goals as goal

pub returns-in_ok-input : goal.returns-in_ok-input
returns-in_ok-input c = (c.has_input.ensures.0 c.if-has_input.true, c.in_ok-input.ensures)

pub returns-else-has_input : goal.returns-else-has_input
returns-else-has_input c = λ run. false≢true (sym c.if-has_input.false ∙ c.has_input.ensures.1 run)
