use Rattle.std.proofs.Common.{◌≡◌, Some}
use Rattle.std.proofs.lemmas.Result.{on_ok_weaker}
use Rattle.slicer_ids.specs.declared.ids.MethodId.{MethodId}
use Rattle.mod_ref.proofs.Gaining.{gains_same}
use Rattle.method_facts.specs.Entering.{Enters}
use Rattle.method_facts.proofs.entries.add_entered.Goals as goal

pub returns : goal.returns
returns c = on_ok_weaker c.add.result (λ h. gains_same c.args.methods.now.items c.add.new.methods.items (λ (t : MethodId). c.entered-found.result ≡ Some t) (Enters c.args.root c.args.constraint.now) c.entered-found.ensures h) c.add.ensures
