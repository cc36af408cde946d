use Rattle.std.proofs.Common.{rules, arith, ◌∙◌}
use Rattle.edge_io.proofs.Pieces.{written_more}
use Rattle.edge_io.proofs.whole.write_whole.Goals as goal

pub loop-at-preserved : goal.loop-at-preserved
loop-at-preserved g c =
    let e = c.in_ok-count.ensures in
    record {
      within = search rules;
      text = written_more c.args.bytes.now c.loop-at.at c.in_ok-count.count (g.K.Sink.written c.args.sink.now) (g.K.Sink.written c.loop-at.sink) (g.K.Sink.written c.write_piece.new.sink) c.loop-at.invariant.text e.written;
      same_label = e.label ∙ c.loop-at.invariant.same_label;
      count = search rules;
      as_steady = e.steady ∙ c.loop-at.invariant.as_steady;
      still = search rules;
    }
