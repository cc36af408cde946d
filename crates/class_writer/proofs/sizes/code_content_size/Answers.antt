use Rattle.std.proofs.Common.{arith}
use Rattle.class_writer.proofs.Lengths.{lines_length}
use Rattle.class_writer.proofs.sizes.code_content_size.Goals as goal

pub returns-in-Lines : goal.returns-in-Lines
returns-in-Lines c = grind (arith, lines_length, c.items.ensures, c.saturating_mul.ensures, c.saturating_add.ensures)
