use Rattle.std.proofs.Common.{◌≡◌, Some, sym, ap, ◌∙◌}
use Rattle.std.proofs.lemmas.Option.{same_Some}
use Rattle.std.proofs.lemmas.Result.{on_ok_weaker}
use Rattle.slicer_ids.specs.declared.ids.MethodId.{MethodId}
use Rattle.mod_ref.proofs.Gaining.{gains_same}
use Rattle.method_facts.proofs.entries.add.Goals as goal

pub returns-in-Some : goal.returns-in-Some
returns-in-Some c =
    on_ok_weaker c.push.result
    (λ h. gains_same c.args.methods.now.items c.push.new.methods.items (λ (t : MethodId). t ≡ c.in-Some.m) (λ (t : MethodId). c.args.found ≡ Some t)
    (λ t. (λ e. c.in-Some.is ∙ ap (λ (z : MethodId). Some z) (sym e), λ e. same_Some t c.in-Some.m (sym e ∙ c.in-Some.is))) h) c.push.ensures
