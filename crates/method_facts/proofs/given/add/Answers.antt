use Rattle.std.proofs.Common.{◌≡◌, Some, sym, ap, ◌∙◌}
use Rattle.std.proofs.lemmas.Option.{same_Some}
use Rattle.std.proofs.lemmas.Result.{on_ok_weaker}
use Rattle.dep_form.specs.declared.rules.Var.{Var}
use Rattle.mod_ref.proofs.Gaining.{gains_same}
use Rattle.method_facts.proofs.given.add.Goals as goal

pub returns-in-Some : goal.returns-in-Some
returns-in-Some c =
    on_ok_weaker c.push.result
    (λ h. gains_same c.args.variables.now.items c.push.new.variables.items (λ (t : Var). t ≡ c.in-Some.x) (λ (t : Var). c.args.found ≡ Some t)
    (λ t. (λ e. c.in-Some.is ∙ ap (λ (z : Var). Some z) (sym e), λ e. same_Some t c.in-Some.x (sym e ∙ c.in-Some.is))) h) c.push.ensures
