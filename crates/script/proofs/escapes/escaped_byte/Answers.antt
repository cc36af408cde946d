use Rattle.script.proofs.Standing.{plain_high, plain_low}
use Rattle.script.proofs.escapes.escaped_byte.Goals as goal

pub returns-in_default : goal.returns-in_default
returns-in_default c = plain_high c.args.word.now c.in_default.ensures

pub returns-in_default-hex_value : goal.returns-in_default-hex_value
returns-in_default-hex_value c = plain_low c.args.word.now c.in_default-hex_value.ensures
