use Rattle.std.proofs.Common.{subst}
use Rattle.std.proofs.lemmas.List.{take_all}
use Rattle.dep_form.specs.Slices.{ModeEdges}
use Rattle.worklists.specs.Growth.{Grows, FromOne}
use Rattle.worklists.proofs.Growing.{Grows-more}
use Rattle.thin_slice.specs.Marks.{found}
use Rattle.thin_slice.specs.Steps.{PassesOver}
use Rattle.thin_slice.proofs.follow.pass_edges.Goals as goal

pub loop-edge-preserved : goal.loop-edge-preserved
loop-edge-preserved g c = record {
  nodes = c.pass_one.ensures.nodes;
  rows = c.pass_one.ensures.rows;
  later = g.met.R.KnownRows.later_trans _ _ _ c.loop-edge.invariant.later c.pass_one.ensures.later;
  grown = Grows-more (PassesOver (ModeEdges c.args.f.now.inputs c.args.mode)) c.args.edges.now c.loop-edge.edge-index _ (found c.args.nodes.now) (found c.loop-edge.nodes) (found c.pass_one.new.nodes) c.loop-edge-test.true c.loop-edge.invariant.grown c.pass_one.ensures.grown;
}

pub returns-clause-grown : goal.returns-clause-grown
returns-clause-grown g c = subst (λ es. Grows (found c.args.nodes.now) (found c.loop-edge.nodes) (FromOne (PassesOver (ModeEdges c.args.f.now.inputs c.args.mode)) es)) (take_all c.loop-edge.edge-index c.args.edges.now c.loop-edge-test.false) c.loop-edge.invariant.grown
