use Rattle.class_writer.proofs.Neighbours.{one_index}
use Rattle.class_writer.proofs.distinct.compare_indices.Goals as goal

pub returns-then-a-b : goal.returns-then-a-b
returns-then-a-b c = one_index c.args.pool.now c.args.a c.args.b c.if-a-b.true
