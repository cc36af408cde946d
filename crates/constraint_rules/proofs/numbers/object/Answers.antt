use Rattle.std.proofs.Common.{length}
use Rattle.constraint_rules.proofs.numbers.object.Goals as goal

pub returns : goal.returns
returns c = λ p s names set placed.
    c.operand_number.ensures p s names (length c.args.t.now.foreign.now) c.args.x.now.instr.now set.of.read placed.at set.variables set.named set.has
