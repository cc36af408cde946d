use Rattle.std.proofs.Common.{◌≡◌, ◌+◌, ℕ, length, get_or, sym, subst, ap, ◌∙◌, arith}
use Rattle.std.specs.Prelude.{Contains, slice_index}
use Rattle.std.proofs.lemmas.List.Elements.{Contains-get_or}
use Rattle.digraph.specs.Graphs.{targets}
use Rattle.digraph.specs.Rows.{IsRowOf}
use Rattle.digraph.proofs.Marks.{targets_row}
use Rattle.digraph.proofs.Closing.{part_more, part_all, row_read}
use Rattle.digraph.proofs.rows.row_of.Goals as goal

pub bounds-rows-target : goal.bounds-rows-target
bounds-rows-target c =
    let g = c.args.graph.now in
    let n = c.args.node in
    let edges = c.as_slice-edges.result.now in
    let i = c.loop-target.target-index in
    let t = get_or edges i 0 in
    let same : targets g n ≡ edges = targets_row g n c.index-graph-node.result c.requires.node c.index-graph-node.is ∙ sym c.as_slice-edges.ensures.value in
    let among : Contains (targets g n) t = subst (λ xs. Contains xs t) (sym same) (Contains-get_or edges i 0 c.loop-target-test.true) in
    c.requires.rows.node t among

pub add_row-requires : goal.add_row-requires
add_row-requires c =
    let g = c.args.graph.now in
    let n = c.args.node in
    let edges = c.as_slice-edges.result.now in
    let i = c.loop-target.target-index in
    let t = get_or edges i 0 in
    let same : targets g n ≡ edges = targets_row g n c.index-graph-node.result c.requires.node c.index-graph-node.is ∙ sym c.as_slice-edges.ensures.value in
    let among : Contains (targets g n) t = subst (λ xs. Contains xs t) (sym same) (Contains-get_or edges i 0 c.loop-target-test.true) in
    let r = row_read g c.args.rows.now c.args.words n t (targets g n) c.index-rows-target.result c.requires.rows among c.index-rows-target.is in
    omega (arith, ap length c.as_slice-other.ensures.value, r.0, c.loop-target.invariant.len)

pub loop-target-preserved : goal.loop-target-preserved
loop-target-preserved c =
    let g = c.args.graph.now in
    let n = c.args.node in
    let edges = c.as_slice-edges.result.now in
    let i = c.loop-target.target-index in
    let t = get_or edges i 0 in
    let same : targets g n ≡ edges = targets_row g n c.index-graph-node.result c.requires.node c.index-graph-node.is ∙ sym c.as_slice-edges.ensures.value in
    let among : Contains (targets g n) t = subst (λ xs. Contains xs t) (sym same) (Contains-get_or edges i 0 c.loop-target-test.true) in
    let r = row_read g c.args.rows.now c.args.words n t (targets g n) c.index-rows-target.result c.requires.rows among c.index-rows-target.is in
    record {
      len = omega (arith, c.add_row.ensures.len, c.loop-target.invariant.len);
      part = part_more g c.loop-target.row.items c.as_slice-other.result.now c.add_row.new.row.items n i t c.loop-target.invariant.part c.add_row.ensures.bits
          (ap (λ xs. slice_index xs i) same) (subst (λ xs. IsRowOf g xs t) (sym c.as_slice-other.ensures.value) r.1);
    }

pub returns-clause-row : goal.returns-clause-row
returns-clause-row c =
    let g = c.args.graph.now in
    let n = c.args.node in
    let edges = c.as_slice-edges.result.now in
    let i = c.loop-target.target-index in
    let same : targets g n ≡ edges = targets_row g n c.index-graph-node.result c.requires.node c.index-graph-node.is ∙ sym c.as_slice-edges.ensures.value in
    part_all g c.loop-target.row.items n i (omega (arith, ap length same)) c.loop-target.invariant.part
