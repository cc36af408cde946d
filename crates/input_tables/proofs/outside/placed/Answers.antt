use Rattle.std.proofs.Common.{arith}
use Rattle.input_tables.proofs.outside.placed.Goals as goal

pub goes_outside-requires : goal.goes_outside-requires
goes_outside-requires c = omega (arith, c.requires.number, c.requires.scene.solved.outside_calls)

pub returns-else-goes_outside-clause-none : goal.returns-else-goes_outside-clause-none
returns-else-goes_outside-clause-none c = λ k r t is. c.goes_outside.ensures.none c.args.scene.now.system.now is.gone.0 c.requires.scene.solved c.if-goes_outside.false is.gone.1
