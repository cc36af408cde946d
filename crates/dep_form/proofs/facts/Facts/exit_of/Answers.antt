use Rattle.std.proofs.lemmas.Cmp.{tied_itself}
use Rattle.dep_form.specs.Orders.{node_cmp}
use Rattle.dep_form.proofs.Searching.{not_found, node_total}
use Rattle.dep_form.proofs.facts.Facts.exit_of.Goals as goal

pub returns-in-Err : goal.returns-in-Err
returns-in-Err c = λ e at. not_found node_cmp node_total (λ n. n) c.items.result.now c.args.self.now.exits c.args.n c.in-Err.field-0 c.items.ensures c.args.self.now.exits_rise c.in-Err.ensures.position e.0 c.args.n at (tied_itself node_total c.args.n)
