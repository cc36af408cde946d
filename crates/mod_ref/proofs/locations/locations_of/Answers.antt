use Rattle.std.proofs.Common.{◌↔◌, List, Contains, sym, subst}
use Rattle.dep_form.specs.declared.effects.Location.{Location}
use Rattle.mod_ref.specs.Locations.{location_of}
use Rattle.mod_ref.proofs.Tables.{mapped}
use Rattle.mod_ref.proofs.locations.locations_of.Goals as goal

pub returns-clause-members : goal.returns-clause-members
returns-clause-members c = λ l.
    let m = mapped location_of c.args.effects.now c.in_ok-all.all.items c.in_ok-all.ensures l in
    (λ h. m.0 ((c.in_order.ensures.members l).0 h), λ h. (c.in_order.ensures.members l).1 (m.1 h))
