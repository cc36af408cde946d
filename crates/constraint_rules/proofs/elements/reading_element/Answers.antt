use Rattle.std.proofs.Common.{sym, ◌∙◌}
use Rattle.std.proofs.lemmas.Bool.{false≢true}
use Rattle.class_form.specs.Opcodes.{IsReferenceLoad}
use Rattle.constraint_rules.proofs.OfKind.{one_of_kind, none_of_kind}
use Rattle.constraint_rules.proofs.FormParts.{load_one}
use Rattle.constraint_rules.proofs.elements.reading_element.Goals as goal

pub returns-then-not-is_reference_load : goal.returns-then-not-is_reference_load
returns-then-not-is_reference_load c = λ p s names set placed.
    none_of_kind c.args.t.now c.args.x.now p s names set placed IsReferenceLoad _ (λ is. false≢true (sym c.if-not-is_reference_load.true ∙ c.is_reference_load.ensures.1 is))

pub returns : goal.returns
returns c = λ p s names set placed.
    one_of_kind c.args.t.now c.args.x.now p s names set placed IsReferenceLoad _ c.load_of.result (c.is_reference_load.ensures.0 c.if-not-is_reference_load.false)
    (load_one _ _ _ _ _ _ c.load_of.result (c.object.ensures p s names set placed) (c.elements.ensures p s names set) (c.value.ensures p s names set) c.load_of.ensures)
