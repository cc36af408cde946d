use Rattle.std.proofs.Common.{sym, ◌∙◌}
use Rattle.std.proofs.lemmas.Bool.{false≢true}
use Rattle.class_form.specs.Opcodes.{IsReferenceStore}
use Rattle.constraint_rules.proofs.OfKind.{one_of_kind, none_of_kind}
use Rattle.constraint_rules.proofs.FormParts.{store_one}
use Rattle.constraint_rules.proofs.elements.writing_element.Goals as goal

pub returns-then-not-is_reference_store : goal.returns-then-not-is_reference_store
returns-then-not-is_reference_store c = λ p s names set placed.
    none_of_kind c.args.t.now c.args.x.now p s names set placed IsReferenceStore _ (λ is. false≢true (sym c.if-not-is_reference_store.true ∙ c.is_reference_store.ensures.1 is))

pub returns : goal.returns
returns c = λ p s names set placed.
    one_of_kind c.args.t.now c.args.x.now p s names set placed IsReferenceStore _ c.store_of.result (c.is_reference_store.ensures.0 c.if-not-is_reference_store.false)
    (store_one _ _ _ _ _ _ c.store_of.result (c.object.ensures p s names set placed) (c.elements.ensures p s names set) (c.object-2.ensures p s names set placed) c.store_of.ensures)
