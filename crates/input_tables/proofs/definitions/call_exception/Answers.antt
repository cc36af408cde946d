use Rattle.std.proofs.Common.{Some, sym, ap, ◌∙◌}
use Rattle.std.proofs.lemmas.Bool.{false≢true}
use Rattle.std.proofs.lemmas.Option.{same_Some}
use Rattle.dep_form.specs.declared.node.Node.{Node}
use Rattle.dep_form.specs.declared.node.Node.TheVariants.{Exception}
use Rattle.input_tables.proofs.definitions.call_exception.Goals as goal

pub returns-then-is_call : goal.returns-then-is_call
returns-then-is_call c = λ k. (λ e. (c.is_call.ensures.0 c.if-is_call.true, sym (same_Some (Exception c.args.pc) k e)), λ h. ap (λ (z : Node). Some z) (sym h.1))

pub returns-else-is_call : goal.returns-else-is_call
returns-else-is_call c = λ k. (λ e. absurd (cc e), λ h. absurd (false≢true (sym c.if-is_call.false ∙ c.is_call.ensures.1 h.0)))
