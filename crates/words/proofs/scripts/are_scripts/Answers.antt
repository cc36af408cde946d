use Rattle.std.proofs.Common.{refl}
use Rattle.words.proofs.scripts.are_scripts.Goals as goal

pub returns : goal.returns
returns c = (λ t. record { few = c.if-not-is_few.ensures.0 refl; apart = c.are_apart.ensures.0 t }, λ a. c.are_apart.ensures.1 a.apart)
