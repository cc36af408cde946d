use Rattle.std.proofs.Common.{◌↔◌}
use Rattle.mod_ref.proofs.Freshly.{no_fresh, fresh_is}
use Rattle.mod_ref.proofs.fresh.fresh_place.Goals as goal

pub returns-in-None : goal.returns-in-None
returns-in-None c = λ t. (λ e. absurd (cc e), λ h. absurd (no_fresh c.args.system.now c.args.number t c.in-None.ensures.none h))

pub returns-in-Some : goal.returns-in-Some
returns-in-Some c = λ t.
    let is = fresh_is c.args.system.now c.args.number c.in-Some.call c.in-Some.ensures.some.0 c.in-Some.ensures.some.1 t in
    (λ e. is.0 ((c.place_if.ensures t).0 e), λ h. (c.place_if.ensures t).1 (is.1 h))
