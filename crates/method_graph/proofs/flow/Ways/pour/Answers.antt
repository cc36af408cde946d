use Rattle.method_graph.proofs.Words.{with_row, rows_apart}
use Rattle.method_graph.proofs.flow.Ways.pour.Goals as goal

pub join_rows-requires-clause-apart : goal.join_rows-requires-clause-apart
join_rows-requires-clause-apart c = rows_apart c.args.p c.args.q c.args.self.now.width c.if-p-q.false

pub returns-clause-ways : goal.returns-clause-ways
returns-clause-ways c = with_row c.args.self.now.width c.args.self.now.words.items c.join_rows.new.words.items c.args.p c.args.q c.join_rows.ensures.joined c.join_rows.ensures.kept
