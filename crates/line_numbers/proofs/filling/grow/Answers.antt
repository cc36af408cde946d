use Rattle.std.proofs.Common.{◌∙◌}
use Rattle.line_numbers.proofs.Tables.{grown}
use Rattle.line_numbers.proofs.filling.grow.Goals as goal

pub loop-by_pc-preserved : goal.loop-by_pc-preserved
loop-by_pc-preserved c = λ k. grown c.loop-by_pc.by_pc.items c.push.new.self.items c.in_ok-push.ensures.items k ∙ c.loop-by_pc.invariant k
