use Rattle.std.proofs.Common.{sym}
use Rattle.bytecode.proofs.constants.type_of_class.Goals as goal

pub returns-in-Some : goal.returns-in-Some
returns-in-Some c = (c.in-Some.field-0.now, sym c.in-Some.ensures)
