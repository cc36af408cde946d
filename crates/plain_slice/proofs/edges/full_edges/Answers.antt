use Rattle.worklists.proofs.Growing.{Grows-more, of_whole}
use Rattle.plain_slice.specs.Edges.{IsPlainOf}
use Rattle.plain_slice.proofs.edges.full_edges.Goals as goal

pub loop-edge-preserved : goal.loop-edge-preserved
loop-edge-preserved c =
    Grows-more IsPlainOf c.args.edges.now c.loop-edge.edge-index _ c.new-plain.result.items c.loop-edge.plain.items c.add_plain.new.edges.items c.loop-edge-test.true c.loop-edge.invariant c.in_ok-add_plain.ensures

pub returns : goal.returns
returns c = λ e. of_whole IsPlainOf c.args.edges.now c.loop-edge.edge-index c.new-plain.result.items c.loop-edge.plain.items c.new-plain.ensures.items c.loop-edge-test.false c.loop-edge.invariant e
