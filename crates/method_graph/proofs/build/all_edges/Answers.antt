use Rattle.std.proofs.Common.{◌≡◌, List, Contains, subst}
use Rattle.std.specs.Prelude.{◌↔◌}
use Rattle.worklists.specs.Growth.{FromOne}
use Rattle.dep_form.specs.declared.node.Edge.{Edge}
use Rattle.method_graph.specs.declared.edges.Ending.{Ending}
use Rattle.method_graph.specs.Edges.{ending_of}
use Rattle.method_graph.proofs.Described.{edges_are}
use Rattle.method_graph.proofs.build.all_edges.Goals as goal

pub returns : goal.returns
returns c = edges_are c.args.input.now c.in_ok-heap.heap c.in_ok-heap.ensures c.in_ok-edges.edges.items c.add_flows.new.edges.items
    (subst (λ (es : List Edge). (x : Ending) → Contains c.in_ok-edges.edges.items x ↔ FromOne (λ (e : Edge) (y : Ending). y ≡ ending_of e) es x) c.items.ensures c.in_ok-edges.ensures) c.in_ok-add_flows.ensures
