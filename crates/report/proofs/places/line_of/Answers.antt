use Rattle.report.proofs.Lines.{line_is}
use Rattle.report.proofs.places.line_of.Goals as goal

pub returns : goal.returns
returns c = line_is c.args.f.now c.args.s c.line.result c.line.ensures
