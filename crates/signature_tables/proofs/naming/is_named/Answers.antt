use Rattle.std.proofs.Common.{sym, subst}
use Rattle.std.specs.Prelude.{◌↔◌, IsTrue}
use Rattle.hierarchy.specs.Selections.{member_key}
use Rattle.signature_tables.specs.Naming.{IsNamedBy}
use Rattle.signature_tables.proofs.naming.is_named.Goals as goal

pub returns-in-ForeignStatics : goal.returns-in-ForeignStatics
returns-in-ForeignStatics c = λ p of.
    subst (λ w. IsTrue c.is_foreign_static.result ↔ IsNamedBy w c.args.h.now c.args.op (member_key c.args.class.now c.args.name.now c.args.descriptor.now)) (sym c.in-ForeignStatics.is) (c.is_foreign_static.ensures p of)
