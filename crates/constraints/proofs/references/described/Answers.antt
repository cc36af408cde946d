use Rattle.std.proofs.Common.{◌≡◌, List, ap, ◌∙◌}
use Rattle.std.proofs.lemmas.Result.{IfOk-weaker}
use Rattle.class_form.specs.declared.types.FieldType.{FieldType}
use Rattle.constraints.specs.Calls.{flags_of, AreFlagsOf}
use Rattle.constraints.proofs.OfFlags.{flags_are}
use Rattle.constraints.proofs.references.described.Goals as goal

pub returns-in-Ok : goal.returns-in-Ok
returns-in-Ok c =
    let r = c.args.receiver in
    let m = c.in-Ok.found in
    IfOk-weaker c.each.result (λ flags. flags.items ≡ flags_of r c.items.result.now) (λ flags. AreFlagsOf r c.args.text.now flags.items)
    (λ flags e. (m, c.in-Ok.ensures, e ∙ ap (λ (ts : List FieldType). flags_of r ts) c.items.ensures ∙ flags_are r m)) c.each.ensures
