use Rattle.line_numbers.proofs.Tables.{one_more}
use Rattle.line_numbers.proofs.filling.put_line.Goals as goal

pub returns : goal.returns
returns c = λ before lasts. one_more before c.args.start c.args.line c.args.by_pc.now.items c.grow.new.by_pc.items c.in_ok-grow.ensures.room c.in_ok-grow.ensures.same lasts
