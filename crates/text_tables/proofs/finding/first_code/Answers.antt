use Rattle.std.proofs.Common.{◌≡◌, All, subst}
use Rattle.std.proofs.lemmas.List.{take_all}
use Rattle.std.proofs.lemmas.List.Elements.{All-more, All-contains}
use Rattle.class_form.specs.declared.class_file.Attribute.{Attribute}
use Rattle.class_form.specs.declared.class_file.CodeBody.{CodeBody}
use Rattle.class_form.specs.declared.class_file.Content.TheVariants.{Code}
use Rattle.text_tables.proofs.finding.first_code.Goals as goal

-- it is no code
abbrev IsOther : Attribute → Type 0
IsOther a = (code : CodeBody) → a.content ≡ Code code → ⊥

pub loop-attribute-preserved : goal.loop-attribute-preserved
loop-attribute-preserved c =
    All-more IsOther c.items-attribute-items.result.now c.loop-attribute.attribute-index c.attribute-item.result c.loop-attribute-test.true c.loop-attribute.invariant
    (subst IsOther c.attribute-item.is c.in_default.not-Code)

pub returns-clause-missed : goal.returns-clause-missed
returns-clause-missed c = λ code h.
    let all = subst (All IsOther) (take_all c.loop-attribute.attribute-index c.items-attribute-items.result.now c.loop-attribute-test.false) c.loop-attribute.invariant in
    let whole = subst (All IsOther) c.items-attribute-items.ensures all in
    All-contains IsOther c.args.method.now.attributes h.0 whole h.1 code h.2
