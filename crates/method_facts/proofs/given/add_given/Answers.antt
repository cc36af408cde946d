use Rattle.std.proofs.Common.{◌≡◌, Some}
use Rattle.std.proofs.lemmas.Result.{on_ok_weaker}
use Rattle.dep_form.specs.declared.rules.Var.{Var}
use Rattle.mod_ref.proofs.Gaining.{gains_same}
use Rattle.method_facts.specs.Entering.{Gives}
use Rattle.method_facts.proofs.given.add_given.Goals as goal

pub returns : goal.returns
returns c = on_ok_weaker c.add.result (λ h. gains_same c.args.variables.now.items c.add.new.variables.items (λ (t : Var). c.given-found.result ≡ Some t) (Gives c.args.root c.args.constraint.now) c.given-found.ensures h) c.add.ensures
