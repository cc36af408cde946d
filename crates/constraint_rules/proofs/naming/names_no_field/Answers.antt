use Rattle.std.proofs.Common.{Some, None, ap}
use Rattle.std.proofs.lemmas.Option.{same_Some}
use Rattle.constraint_rules.proofs.naming.names_no_field.Goals as goal

pub returns-in-Some : goal.returns-in-Some
returns-in-Some c = λ p s names set placed.
    let one = c.in-Some.ensures p s names set placed None in (
      λ yes. one.1 (ap (λ z. Some z) (c.is_none.ensures.0 yes)),
      λ names. c.is_none.ensures.1 (same_Some c.in-Some.found None (one.0 names)),
    )

pub returns-in-None : goal.returns-in-None
returns-in-None c = λ p s names set placed.
    let one = c.in-None.ensures p s names set placed None in (λ yes. absurd (cc yes), λ names. absurd (let e = one.0 names in cc e))
