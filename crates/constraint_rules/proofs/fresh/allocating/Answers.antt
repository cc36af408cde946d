use Rattle.std.proofs.Common.{sym, ◌∙◌}
use Rattle.std.proofs.lemmas.Bool.{false≢true}
use Rattle.program_form.specs.Facts.{IsAllocation}
use Rattle.constraint_rules.proofs.OfKind.{one_of_kind, none_of_kind}
use Rattle.constraint_rules.proofs.FormParts.{alloc_one}
use Rattle.constraint_rules.proofs.fresh.allocating.Goals as goal

pub returns-then-not-allocates : goal.returns-then-not-allocates
returns-then-not-allocates c = λ p s names set placed.
    none_of_kind c.args.t.now c.args.x.now p s names set placed IsAllocation _ (λ is. false≢true (sym c.if-not-allocates.true ∙ c.allocates.ensures.1 is))

pub returns : goal.returns
returns c = λ p s names set placed.
    one_of_kind c.args.t.now c.args.x.now p s names set placed IsAllocation _ c.alloc_of.result (c.allocates.ensures.0 c.if-not-allocates.false)
    (alloc_one _ _ _ _ c.alloc_of.result (c.value.ensures p s names set) (c.first_site.ensures p s names set) c.alloc_of.ensures)
