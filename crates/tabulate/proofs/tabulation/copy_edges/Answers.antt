use Rattle.std.proofs.Common.{◌≡◌, ◌∙◌, ◌++◌, ℕ, List, Some, Contains, sym, subst, ap}
use Rattle.std.specs.Prelude.{◌↔◌, slice_get}
use Rattle.dep_form.specs.declared.facts.Facts.{Facts}
use Rattle.dep_form.specs.declared.node.Edge.{Edge}
use Rattle.dep_form.specs.Graphs.{HasInput, IsGraphIn}
use Rattle.dep_form.specs.Inputs.{IsEdge}
use Rattle.tabulate.proofs.Placing.{has_input}
use Rattle.tabulate.proofs.KeptEdges.{node_within, edges_at}
use Rattle.tabulate.proofs.MeetLaws.{if_ok}
use Rattle.tabulate.proofs.tabulation.copy_edges.Goals as goal

pub graph-requires-clause-inside : goal.graph-requires-clause-inside
graph-requires-clause-inside g c =
    let p = c.args.f.now in
    let i = has_input p c.args.n c.requires.node.0 in
    subst (λ (f : Facts). HasInput f.inputs c.args.m) (sym c.requires.graphs.1) (i.0, subst (λ (k : ℕ). slice_get p.inputs k ≡ Some (Some i.0)) c.requires.node.1 i.1)

pub incoming-requires : goal.incoming-requires
incoming-requires g c =
    let is = subst (λ (f : Facts). IsGraphIn f.inputs c.args.m c.in_ok-graph.graph.now) c.requires.graphs.1 (if_ok _ c.graph.result c.in_ok-graph.graph c.in_ok-graph.was c.graph.follows.holds-at-none.2) in
    node_within c.args.f.now c.args.m c.in_ok-graph.graph.now is c.args.n c.requires.node

pub returns-clause-edges : goal.returns-clause-edges
returns-clause-edges g c =
    let is = subst (λ (f : Facts). IsGraphIn f.inputs c.args.m c.in_ok-graph.graph.now) c.requires.graphs.1 (if_ok _ c.graph.result c.in_ok-graph.graph c.in_ok-graph.was c.graph.follows.holds-at-none.2) in
    let copied : c.extend_from_slice.new.self.items ≡ c.incoming.result.now = c.in_ok-extend_from_slice.ensures.items ∙ ap (λ ys. ys ++ c.incoming.result.now) c.clear.ensures.items in
    λ e. subst (λ (ys : List Edge). Contains ys e ↔ (IsEdge c.args.f.now.inputs e × (e.to ≡ c.args.n))) (sym copied) (edges_at c.args.f.now c.args.m c.in_ok-graph.graph.now is c.args.n c.incoming.result.now c.requires.node c.incoming.ensures e)
