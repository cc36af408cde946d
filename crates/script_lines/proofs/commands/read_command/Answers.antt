use Rattle.script_lines.proofs.Trimming.{whole_says, told}
use Rattle.script_lines.proofs.commands.read_command.Goals as goal

pub returns : goal.returns
returns c = λ some l is.
    let e = c.parse_line.ensures in
    whole_says c.args.line.now l c.trimmed.result.now c.parse_line.result is c.trimmed.ensures (told c.trimmed.result.now c.parse_line.result e.ok e.too_long.0 e.unknown.0 e.arity.0 e.bad_number.0 some)
