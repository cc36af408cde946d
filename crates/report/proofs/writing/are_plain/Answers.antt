use Rattle.std.proofs.Common.{rules}
use Rattle.report.proofs.Plain.{plain_more, plain_all}
use Rattle.report.proofs.writing.are_plain.Goals as goal

pub loop-byte-preserved : goal.loop-byte-preserved
loop-byte-preserved c = plain_more c.args.name.now c.loop-byte.byte-index 0 (search rules) c.loop-byte.invariant (search rules)

pub returns : goal.returns
returns c = λ e. plain_all c.args.name.now c.loop-byte.byte-index (search rules) c.loop-byte.invariant
