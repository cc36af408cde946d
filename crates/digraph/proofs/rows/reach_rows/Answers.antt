use Rattle.std.proofs.Common.{◌≡◌, ◌+◌, ◌/◌, length, get_or, take, set, sym, subst, ◌∙◌, length-set, arith}
use Rattle.std.proofs.lemmas.List.{take_more}
use Rattle.digraph.specs.Graphs.{targets}
use Rattle.digraph.specs.Rows.{HaveRows}
use Rattle.digraph.proofs.Closing.{rows_more, rows_before, rows_all}
use Rattle.digraph.proofs.rows.reach_rows.Goals as goal

pub row_of-requires-clause-rows : goal.row_of-requires-clause-rows
row_of-requires-clause-rows c =
    let g = c.args.graph.now in
    let words = length g / 64 + 1 in
    subst (λ rows. HaveRows g rows words (targets g (get_or c.args.order.now c.loop-node.node-index 0))) (sym c.deref.ensures.value)
    (rows_before g c.loop-node.rows.items words c.loop-node.node-index c.args.order.now c.requires c.loop-node-test.true c.loop-node.invariant.have)

pub loop-node-preserved : goal.loop-node-preserved
loop-node-preserved c =
    let g = c.args.graph.now in
    let rows = c.loop-node.rows.items in
    let i = c.loop-node.node-index in
    let words = length g / 64 + 1 in
    let n = get_or c.args.order.now i 0 in
    let lt = c.requires.nodes i 0 c.loop-node-test.true in
    record {
      len = length-set rows n c.in_ok-row.row ∙ c.loop-node.invariant.len;
      have = subst (HaveRows g (set rows n c.in_ok-row.row) words) (sym (take_more c.args.order.now i 0 c.loop-node-test.true))
          (rows_more g rows words n (take i c.args.order.now) c.in_ok-row.row c.loop-node.invariant.have (omega (arith, lt, c.loop-node.invariant.len))
          (omega (arith, c.in_ok-row.row.ok.0, c.in_ok-row.ensures.len)) c.in_ok-row.ensures.row);
    }

pub returns : goal.returns
returns c =
    let g = c.args.graph.now in
    rows_all g c.loop-node.rows.items (length g / 64 + 1) c.loop-node.node-index c.args.order.now c.requires c.loop-node-test.false c.loop-node.invariant.len c.loop-node.invariant.have
