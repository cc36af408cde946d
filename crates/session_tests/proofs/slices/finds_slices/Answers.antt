use Rattle.std.proofs.Common.{arith}
use Rattle.session_tests.proofs.slices.finds_slices.Goals as goal

pub sliced-requires : goal.sliced-requires
sliced-requires g c = λ i j d lt within. absurd (omega (arith, lt, within))

pub sliced-requires-2 : goal.sliced-requires-2
sliced-requires-2 g c = λ i j d lt within. absurd (omega (arith, lt, within))
