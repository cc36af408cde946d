use Rattle.std.proofs.Common.{List, Some, refl, sym, subst}
use Rattle.class_form.specs.declared.body.Point.{Point}
use Rattle.class_form.specs.declared.class_file.CodeBody.{CodeBody}
use Rattle.text_tables.specs.MethodLines.{AreLinesOf, ArePointsInOrder}
use Rattle.text_tables.proofs.Answered.{ok_then}
use Rattle.text_tables.proofs.Options.{one_found, none_is}
use Rattle.text_tables.proofs.BodyLines.{entries_rise, none_rise}
use Rattle.text_tables.proofs.methods.body_lines.Goals as goal

pub returns-in-Some-clause-rise : goal.returns-in-Some-clause-rise
returns-in-Some-clause-rise c = ok_then c.code_lines.result _ _ c.code_lines.ensures
    (λ v h. entries_rise c.in-Some.code.now c.items.result.now v.items (subst ArePointsInOrder (sym c.items.ensures) c.requires.points) h)

pub returns-in-Some-clause-lines : goal.returns-in-Some-clause-lines
returns-in-Some-clause-lines c = ok_then c.code_lines.result _ _ c.code_lines.ensures (λ v h p code same coded of.
    let is = one_found _ c.code_of.result c.in-Some.code (Some code) code c.in-Some.is (c.code_of.ensures p code same coded of) refl in
    subst (λ (ps : List Point). AreLinesOf code ps v.items) c.items.ensures (subst (λ (z : CodeBody). AreLinesOf z c.items.result.now v.items) is h))

pub returns-in-None-clause-rise : goal.returns-in-None-clause-rise
returns-in-None-clause-rise c = none_rise c.new.result.items c.new.ensures.items

pub returns-in-None-clause-lines : goal.returns-in-None-clause-lines
returns-in-None-clause-lines c = λ p code same coded of. none_is _ c.code_of.result (Some code) code c.in-None.is (c.code_of.ensures p code same coded of) refl
