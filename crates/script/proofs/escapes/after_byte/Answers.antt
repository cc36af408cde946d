use Rattle.script.proofs.Standing.{begins_one}
use Rattle.script.proofs.escapes.after_byte.Goals as goal

pub returns-else-b-byte : goal.returns-else-b-byte
returns-else-b-byte c = λ r h. c.if-b-byte.false (begins_one c.args.word.now _ _ _ r c.in-Some.ensures h).0
