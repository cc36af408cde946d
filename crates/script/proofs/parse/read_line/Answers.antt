use Rattle.std.proofs.Common.{refl, arith}
use Rattle.script.specs.Lines.{too_long, empty}
use Rattle.script.proofs.Deciding.{says_comment, says_unknown, finishes_line}
use Rattle.script.proofs.parse.read_line.Goals as goal

pub returns-then-line-gt-LINE_BYTES : goal.returns-then-line-gt-LINE_BYTES
returns-then-line-gt-LINE_BYTES c = too_long (omega arith)

pub returns-in_default : goal.returns-in_default
returns-in_default c = empty (omega arith) (c.args.line.now, refl, c.in_default.ensures)

pub returns-then-word-eq35 : goal.returns-then-word-eq35
returns-then-word-eq35 c = says_comment c.args.line.now _ _ (omega arith) c.in-Some.ensures (omega arith)

pub returns-in_default-keyword_of : goal.returns-in_default-keyword_of
returns-in_default-keyword_of c = says_unknown c.args.line.now _ _ (omega arith) c.in-Some.ensures (omega arith) c.in_default-keyword_of.ensures

pub returns : goal.returns
returns c = finishes_line c.args.line.now _ _ _ _ (omega arith) c.in-Some.ensures (omega arith) c.in-Some-keyword_of.ensures c.read_command.ensures
