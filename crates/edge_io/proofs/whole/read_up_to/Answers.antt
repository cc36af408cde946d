use Rattle.std.proofs.Common.{rules, arith, ◌≡◌, ◌∙◌, ◌≤◌, ◌+◌, ap, length, length-append, ℕ, length-take}
use Rattle.edge_io.proofs.Pieces.{left_more, read_more, all_read, longer}
use Rattle.edge_io.proofs.whole.read_up_to.Goals as goal

pub returns-then-count-eq0-clause-content : goal.returns-then-count-eq0-clause-content
returns-then-count-eq0-clause-content g c =
    let r = c.in_ok-count.ensures.read in
    let v = c.loop-buffer.invariant in
    rw r.3 (all_read c.loop-buffer.bytes.items r.0 c.args.limit c.in_ok-count.count (g.S.Source.left c.args.source.now) (g.S.Source.left c.loop-buffer.source) v.rest v.read v.within r.5 c.if-count-eq0.true r.1)

pub loop-buffer-preserved : goal.loop-buffer-preserved
loop-buffer-preserved g c =
    let r = c.in_ok-count.ensures.read in
    let v = c.loop-buffer.invariant in
    let more : length c.read_piece.new.bytes.items ≡ length c.loop-buffer.bytes.items + c.in_ok-count.count = longer c.loop-buffer.bytes.items r.0 _ _ r.3 r.1 in
    record {
      within = omega (arith, more, r.2, length-take {A = ℕ} c.min-room.result c.loop-buffer.buffer);
      rest = rw more (left_more (length c.loop-buffer.bytes.items) c.in_ok-count.count (g.S.Source.left c.args.source.now) (g.S.Source.left c.loop-buffer.source) (g.S.Source.left c.read_piece.new.source) v.rest r.4);
      read = rw r.3 (read_more c.loop-buffer.bytes.items r.0 c.in_ok-count.count (g.S.Source.left c.args.source.now) (g.S.Source.left c.loop-buffer.source) v.rest v.read r.5);
      count = search rules;
      as_steady = c.in_ok-count.ensures.steady ∙ v.as_steady;
      still = search rules;
    }
