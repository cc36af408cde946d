use Rattle.std.proofs.Common.{◌≡◌, Some, sym, ap, subst, ◌∙◌}
use Rattle.std.proofs.lemmas.Option.{same_Some}
use Rattle.mod_ref.proofs.Gaining.{gains_none}
use Rattle.mod_ref.proofs.Touched.{told}
use Rattle.input_tables.specs.Control.{IsStepToFound, step}
use Rattle.input_tables.proofs.ControlFlow.{found_step}
use Rattle.input_tables.proofs.steps.add_step.Goals as goal

pub returns-in-None : goal.returns-in-None
returns-in-None c = gains_none c.args.steps.now.items (IsStepToFound c.args.from c.args.to) (λ x w. absurd (cc (sym c.in-None.is ∙ w.1)))

pub returns-in-Some : goal.returns-in-Some
returns-in-Some c = told c.push.result c.args.steps.now.items c.push.new.steps.items (λ x. x ≡ step c.args.from c.in-Some.r) (IsStepToFound c.args.from c.args.to) (found_step c.args.from c.in-Some.r c.args.to c.in-Some.is) c.push.ensures
