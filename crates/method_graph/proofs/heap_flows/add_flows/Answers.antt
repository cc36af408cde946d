use Rattle.std.proofs.Common.{◌⊎◌, subst, List}
use Rattle.worklists.specs.Growth.{Grows}
use Rattle.worklists.proofs.Growing.{Grows-then}
use Rattle.method_graph.specs.declared.locations.Access.{Access}
use Rattle.method_graph.specs.declared.edges.Ending.{Ending}
use Rattle.method_graph.specs.Heaps.{FlowsBetween, FlowsByWays, HeapFlows}
use Rattle.method_graph.proofs.heap_flows.add_flows.Goals as goal

pub returns : goal.returns
returns c =
    let h = c.args.heap.now in
    let e0 = c.args.edges.now.items in
    let e1 = c.add_all_ways.new.edges.items in
    let e2 = c.add_between.new.edges.items in
    let e3 = c.add_between-2.new.edges.items in
    let a = subst (λ (xs : List Access). Grows e0 e1 (FlowsByWays h.ways h.puts.items xs)) c.deref-2.ensures.value (subst (λ (xs : List Access). Grows e0 e1 (FlowsByWays h.ways xs c.deref-2.result.now)) c.deref.ensures.value c.in_ok-add_all_ways.ensures) in
    let b = subst (λ (xs : List Access). Grows e1 e2 (FlowsBetween h.entries.items xs)) c.deref-4.ensures.value (subst (λ (xs : List Access). Grows e1 e2 (FlowsBetween xs c.deref-4.result.now)) c.deref-3.ensures.value c.in_ok-add_between.ensures) in
    let d = subst (λ (xs : List Access). Grows e2 e3 (FlowsBetween h.puts.items xs)) c.deref-6.ensures.value (subst (λ (xs : List Access). Grows e2 e3 (FlowsBetween xs c.deref-6.result.now)) c.deref-5.ensures.value c.in_ok-add_between-2.ensures) in
    let P : Ending → Type 0 = FlowsByWays h.ways h.puts.items h.gets.items in
    let Q : Ending → Type 0 = FlowsBetween h.entries.items h.gets.items in
    let R : Ending → Type 0 = FlowsBetween h.puts.items h.exits.items in
    let bd = Grows-then e1 e2 e3 Q R (λ x. Q x ⊎ R x) (λ x f. f) (λ x f. f) b d in
    Grows-then e0 e1 e3 P (λ x. Q x ⊎ R x) (HeapFlows h) (λ x f. f) (λ x f. f) a bd
