use Rattle.script_lines.proofs.Taking.{read_on}
use Rattle.script_lines.proofs.reader.ScriptReader.have_byte.Goals as goal

pub returns-in-Ok-clause-within : goal.returns-in-Ok-clause-within
returns-in-Ok-clause-within g c = λ script lines rest w. read_on script lines rest c.fill.new.self _ c.after_read.result c.after_read.ensures c.in-Ok.ensures.end (c.in-Ok.ensures.within script lines rest w)
