use Rattle.std.proofs.Common.{◌≡◌, Some, None}
use Rattle.std.proofs.lemmas.Bool.{false≢true}
use Rattle.hierarchy.specs.Selections.{member_key}
use Rattle.signature_tables.proofs.NamedTexts.{one_field_found}
use Rattle.signature_tables.proofs.naming.is_foreign.Goals as goal

pub returns-in-Some : goal.returns-in-Some
returns-in-Some c = λ p of. (
  λ t. absurd (false≢true t),
  λ none.
      let found = c.in-Some.ensures in
      let e : Some found.0 ≡ None = one_field_found c.args.h.now p of (member_key c.args.class.now c.args.name.now c.args.descriptor.now) (Some found.0) None found.1 none in
      absurd (cc e),
)
