use Rattle.std.proofs.Common.{sym}
use Rattle.class_reader.proofs.Numbering.{put}
use Rattle.class_reader.proofs.numbers.first_of.Goals as goal

pub returns : goal.returns
returns c = put c.args.firsts.now c.insert.new.self c.args.text c.args.next c.in_ok-insert.ensures.updates (sym c.in_default.ensures.value)
