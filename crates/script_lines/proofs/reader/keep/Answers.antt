use Rattle.std.proofs.Common.{◌∙◌, arith}
use Rattle.script_lines.proofs.Taking.{kept_more, kept_full}
use Rattle.script_lines.proofs.reader.keep.Goals as goal

pub returns-in-Ok-clause-kept : goal.returns-in-Ok-clause-kept
returns-in-Ok-clause-kept c = λ rest e.
    c.in-Ok.ensures.items ∙ kept_more c.args.line.now.items rest c.args.byte e (omega (arith, c.if-len-lt-KEPT_BYTES.true, c.len.ensures, c.args.line.now.ok.0))

pub returns-else-len-lt-KEPT_BYTES-clause-kept : goal.returns-else-len-lt-KEPT_BYTES-clause-kept
returns-else-len-lt-KEPT_BYTES-clause-kept c = λ rest e. kept_full c.args.line.now.items rest c.args.byte e (omega (arith, c.if-len-lt-KEPT_BYTES.false, c.len.ensures, c.args.line.now.ok.0))
