use Rattle.std.proofs.Common.{◌++◌, ◌∷◌, List, [], Bool, take, sym, ap, ◌∙◌}
use Rattle.std.proofs.lemmas.List.{take_more, take_all}
use Rattle.class_form.specs.Types.{is_reference}
use Rattle.class_form.specs.declared.types.FieldType.{FieldType}
use Rattle.constraints.specs.Calls.{flags_of}
use Rattle.constraints.proofs.OfFlags.{flags_push}
use Rattle.constraints.proofs.references.each.Goals as goal

pub loop-argument-preserved : goal.loop-argument-preserved
loop-argument-preserved c =
    let r = c.args.receiver in
    let xs = c.args.arguments.now in
    let i = c.loop-argument.argument-index in
    let x = c.argument-item.result in
    c.in_ok-push.ensures.items ∙ ap (λ (b : Bool). c.loop-argument.flags.items ++ b ∷ []) c.is_reference.ensures ∙ ap (λ (bs : List Bool). bs ++ is_reference x ∷ []) c.loop-argument.invariant
    ∙ sym (flags_push r (take i xs) x)
    ∙ ap (λ (ts : List FieldType). flags_of r ts) (ap (λ (z : FieldType). take i xs ++ z ∷ []) c.argument-item.is ∙ sym (take_more xs i x c.loop-argument-test.true))

pub returns : goal.returns
returns c = c.loop-argument.invariant ∙ ap (λ (ts : List FieldType). flags_of c.args.receiver ts) (take_all c.loop-argument.argument-index c.args.arguments.now c.loop-argument-test.false)
