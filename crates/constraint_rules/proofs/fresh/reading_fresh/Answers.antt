use Rattle.std.proofs.Common.{◌⊎◌, sym, ◌∙◌}
use Rattle.std.proofs.lemmas.Bool.{false≢true}
use Rattle.class_form.specs.Opcodes.{IsGetStatic, IsGetField}
use Rattle.constraint_rules.specs.Settings.{place_of}
use Rattle.constraint_rules.specs.Statements.{FreshOf}
use Rattle.constraint_rules.proofs.Ones.{none_of, one_same}
use Rattle.constraint_rules.proofs.OfKind.{one_of_kind, none_of_kind}
use Rattle.constraint_rules.proofs.FormParts.{alloc_one}
use Rattle.constraint_rules.proofs.fresh.reading_fresh.Goals as goal

pub returns-then-not-reads_field : goal.returns-then-not-reads_field
returns-then-not-reads_field c = λ p s names set placed.
    none_of_kind c.args.t.now c.args.x.now p s names set placed (λ op. IsGetStatic op ⊎ IsGetField op) (FreshOf p s names (place_of c.args.x.now)) (λ is. false≢true (sym c.if-not-reads_field.true ∙ c.reads_field.ensures.1 is))

pub returns-then-not-names_no_field : goal.returns-then-not-names_no_field
returns-then-not-names_no_field c = λ p s names set placed.
    none_of _ (λ r h. false≢true (sym c.if-not-names_no_field.true ∙ (c.names_no_field.ensures p s names set placed).1 h.1.0))

pub returns : goal.returns
returns c = λ p s names set placed.
    let none = (c.names_no_field.ensures p s names set placed).0 c.if-not-names_no_field.false in
    one_of_kind c.args.t.now c.args.x.now p s names set placed (λ op. IsGetStatic op ⊎ IsGetField op) (FreshOf p s names (place_of c.args.x.now)) c.alloc_of.result (c.reads_field.ensures.0 c.if-not-reads_field.false)
    (one_same _ _ c.alloc_of.result (λ r h. (none, h)) (λ r h. h.1)
    (alloc_one _ _ _ _ c.alloc_of.result (c.value.ensures p s names set) (c.first_site.ensures p s names set) c.alloc_of.ensures))
