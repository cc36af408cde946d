use Rattle.std.proofs.Common.{ℕ, subst, sym, rules}
use Rattle.std.proofs.lemmas.Option.{same_Some}
use Rattle.body_form.specs.Bodies.{HasType, FitsIn}
use Rattle.body_form.proofs.Slots.{has_room, room_fits}
use Rattle.method_body.proofs.arguments.has_room.Goals as goal

pub returns : goal.returns
returns c =
    let p = c.args.pool.now in
    let m = c.args.method.now in
    let found = c.in-Some-parameter_slots.ensures.only (search rules) in
    let t : HasType p m found.0 = (c.in-Some.text.now, sym c.in-Some.ensures, found.1) in
    let e = same_Some _ _ (c.in-Some-parameter_slots.ensures.exact found.0 found.1) in (
      λ h. has_room p m c.args.locals found.0 t (subst (λ (n : ℕ). FitsIn n m.flags c.args.locals) e (c.fits.ensures.0 h)),
      λ h. c.fits.ensures.1 (subst (λ (n : ℕ). FitsIn n m.flags c.args.locals) (sym e) (room_fits p m c.args.locals found.0 t h)),
    )
