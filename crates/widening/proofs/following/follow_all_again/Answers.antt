use Rattle.std.proofs.Common.{◌∙◌, ◌+◌, List, [], ◌∷◌, drop, get_or}
use Rattle.std.proofs.lemmas.List.{drop_all, drop_more}
use Rattle.std.proofs.lemmas.List.Elements.{Contains-get_or}
use Rattle.slicer_ids.specs.declared.ids.NodeId.{NodeId}
use Rattle.widening.specs.Edges.{Widened}
use Rattle.widening.proofs.FollowLaws.{same_none, same_then, done_left, done_empty}
use Rattle.widening.proofs.following.follow_all_again.Goals as goal

pub loop-node-init : goal.loop-node-init
loop-node-init g c = record {
  graphs = (c.requires.graphs.0, g.met.G.Graphs.later_refl c.args.graphs.now);
  methods = (c.requires.pairs.methods, λ m x h. h);
  pairs = c.requires.pairs;
  done = λ d. d;
  same = same_none c.args.f.now (Widened c.args.f.now c.args.expansions.now) c.args.pairs.now;
  kept = λ d k. k;
  needed = λ seeds h. h;
}

pub loop-node-preserved : goal.loop-node-preserved
loop-node-preserved g c =
    let l = c.loop-node in
    let f = c.args.f.now in
    let E = Widened f c.args.expansions.now in
    let e = c.in_ok-follow_again.ensures in
    let none : NodeId = record { 0 = 0 } in
    let rest : List NodeId = drop (l.node-index + 1) c.args.nodes.now in
    record {
      graphs = (c.follow_again.ensures.graphs.0, g.met.G.Graphs.later_trans c.args.graphs.now l.graphs c.follow_again.new.graphs l.invariant.graphs.1 c.follow_again.ensures.graphs.1);
      methods = (c.follow_again.ensures.methods.0, λ m x h. c.follow_again.ensures.methods.1 m x (l.invariant.methods.1 m x h));
      pairs = e.followed.pairs;
      done = λ d. e.followed.done rest (done_left f E l.invariant.pairs.edges l.pairs (drop l.node-index c.args.nodes.now) (get_or c.args.nodes.now l.node-index none ∷ rest) (drop_more c.args.nodes.now l.node-index none c.loop-node-test.true) (l.invariant.done d));
      same = same_then f E c.args.pairs.now l.pairs c.follow_again.new.pairs l.invariant.same e.followed.same;
      kept = λ d k. e.followed.kept d (l.invariant.kept d k);
      needed = λ seeds h. e.followed.needed seeds (l.invariant.needed seeds h);
    }

pub follow_again-requires-clause-graphs : goal.follow_again-requires-clause-graphs
follow_again-requires-clause-graphs g c = (c.loop-node.invariant.graphs.0, g.met.G.Graphs.later_facts c.args.graphs.now c.loop-node.graphs c.loop-node.invariant.graphs.1 ∙ c.requires.graphs.1)

pub follow_again-requires-clause-node : goal.follow_again-requires-clause-node
follow_again-requires-clause-node g c = c.requires.nodes _ (Contains-get_or c.args.nodes.now c.loop-node.node-index _ c.loop-node-test.true)

pub returns-clause-followed : goal.returns-clause-followed
returns-clause-followed g c =
    let l = c.loop-node in
    let f = c.args.f.now in
    let E = Widened f c.args.expansions.now in
    record {
      pairs = l.invariant.pairs;
      done = λ d. done_empty f E l.invariant.pairs.edges l.pairs (done_left f E l.invariant.pairs.edges l.pairs (drop l.node-index c.args.nodes.now) [] (drop_all l.node-index c.args.nodes.now c.loop-node-test.false) (l.invariant.done d));
      same = l.invariant.same;
      kept = l.invariant.kept;
      needed = l.invariant.needed;
    }
