use Rattle.std.proofs.Common.{arith}
use Rattle.widening.proofs.EndLaws.{slice_of, of_slice}
use Rattle.widening.proofs.wide.Wide.has.Goals as goal

pub has-requires-clause-set : goal.has-requires-clause-set
has-requires-clause-set c = c.requires.node.1.down.set

pub has-requires-clause-within : goal.has-requires-clause-within
has-requires-clause-within c = let w = c.requires.node.1.down.size in omega (arith, c.requires.node.2, w)

pub returns : goal.returns
returns c = λ f w. (
  λ t. slice_of f _ _ _ w c.args.n (c.has.ensures.0 t),
  λ h. c.has.ensures.1 (of_slice f _ _ _ w c.args.n h),
)
