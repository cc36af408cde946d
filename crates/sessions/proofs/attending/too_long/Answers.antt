use Rattle.std.proofs.Common.{refl, inl, inr}
use Rattle.sessions.proofs.attending.too_long.Goals as goal

pub returns-in-Ok-clause-told : goal.returns-in-Ok-clause-told
returns-in-Ok-clause-told g c = inl (refl, c.in-Ok.ensures.told.1)

pub returns-in-Err-clause-told : goal.returns-in-Err-clause-told
returns-in-Err-clause-told g c =
    let part = c.in-Err.ensures.part in
    inr (c.in-Err.error, c.stopped.ensures, c.in-Err.ensures.fault, (part.0, inr part.1, part.2))
