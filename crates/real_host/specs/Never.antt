-- What follows where something is steady that is not.
use Rattle.std.specs.Prelude.{◌≡◌, true, false}
use Rattle.std.proofs.Common.{true≢false, sym}

pub never : {A : Type 0} → false ≡ true → A
never e = absurd (true≢false (sym e))
