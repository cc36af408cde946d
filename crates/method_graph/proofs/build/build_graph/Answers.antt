use Rattle.std.proofs.Common.{List, Contains, AllPairs, length, subst, sym, ap, refl, ◌∙◌}
use Rattle.std.specs.Prelude.{slice_get, ◌↔◌}
use Rattle.dep_form.specs.declared.node.Edge.{Edge}
use Rattle.dep_form.specs.Inputs.{IsEdgeOf}
use Rattle.method_graph.specs.declared.edges.Ending.{Ending}
use Rattle.method_graph.specs.Edges.{EndingBefore, AreIncoming, edge_of}
use Rattle.method_graph.proofs.Collected.{lists_are}
use Rattle.method_graph.proofs.build.build_graph.Goals as goal

pub incoming_of-requires-clause-order : goal.incoming_of-requires-clause-order
incoming_of-requires-clause-order c = subst (AllPairs EndingBefore) (sym c.deref.ensures.value) c.in_order-edges.ensures.order

pub returns : goal.returns
returns c =
    let i = c.args.input.now in
    let lists = c.in_ok-incoming.incoming.items in
    let n = length c.items.result.now in
    let edges = c.in_order-edges.result.items in
    let incoming = subst (λ (es : List Ending). AreIncoming es i.first.0 n lists) c.deref.ensures.value c.in_ok-incoming.ensures in
    let are : (x : Ending) → Contains edges x ↔ IsEdgeOf i (edge_of x) = λ x. (λ h. (c.in_ok-all_edges.ensures x).0 ((c.in_order-edges.ensures.members x).0 h), λ h. (c.in_order-edges.ensures.members x).1 ((c.in_ok-all_edges.ensures x).1 h)) in
    record {
      method = refl;
      first = refl;
      size = ap length c.from_vec.ensures ∙ incoming.size ∙ ap length c.items.ensures;
      edges = λ k es at. lists_are i edges n lists are incoming k es (sym (ap (λ (xs : List (List Edge)). slice_get xs k) c.from_vec.ensures) ∙ at);
    }
