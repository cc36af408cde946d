use Rattle.std.proofs.Common.{◌<◌, ◌+◌, ◌*◌, ◌/◌, length, arith}
use Rattle.method_graph.proofs.Words.{with_way, row_ends}
use Rattle.method_graph.proofs.flow.Ways.add_way.Goals as goal

pub returns-clause-ways : goal.returns-clause-ways
returns-clause-ways c = λ a b within.
    let w = c.args.self.now.width in
    let ends = row_ends c.args.p c.args.self.now.points w c.requires.0 in
    let in_row : c.args.q / 64 < w = omega (arith, c.requires.1, c.args.self.now.rows.wide) in
    let inside : c.args.p * w + c.args.q / 64 < length c.args.self.now.words.items = omega (arith, ends, in_row, c.args.self.now.rows.size) in
    rw c.add_bits.ensures.joined (with_way w c.args.self.now.words.items c.args.p c.args.q inside in_row a b within)
