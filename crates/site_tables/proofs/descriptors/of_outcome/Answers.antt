use Rattle.std.proofs.Common.{[], sym, subst}
use Rattle.site_tables.specs.Making.{OutcomeFresh}
use Rattle.site_tables.proofs.Outcomes.{outcome_type}
use Rattle.site_tables.proofs.descriptors.of_outcome.Goals as goal

pub type_in_front-requires : goal.type_in_front-requires
type_in_front-requires c =
    let t = outcome_type c.requires.0 c.args.bytes.now c.requires.1 c.if-bytes-eq86.false in
    (t.0, [], t.2, t.3)

pub returns : goal.returns
returns c = λ r is.
    let t = outcome_type r c.args.bytes.now is c.if-bytes-eq86.false in
    subst (λ o. OutcomeFresh o c.type_in_front.result.0) (sym t.1) (c.type_in_front.ensures t.0 [] t.2 t.3).0
