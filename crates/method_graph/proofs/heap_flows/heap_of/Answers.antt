use Rattle.std.proofs.Common.{◌≡◌, ◌<◌, ℕ, sym, subst}
use Rattle.std.specs.Prelude.{Contains, ◌↔◌}
use Rattle.std.proofs.lemmas.List.Elements.{Contains-get_or}
use Rattle.slicer_ids.specs.declared.ids.NodeId.{NodeId}
use Rattle.slicer_ids.specs.declared.ids.LocId.{LocId}
use Rattle.slicer_ids.specs.Walks.{LeadsOn}
use Rattle.dep_form.specs.declared.node.Node.TheVariants.{HeapIn, HeapOut}
use Rattle.method_graph.specs.declared.locations.Access.{Access}
use Rattle.method_graph.specs.Accesses.{access_of, IsHead}
use Rattle.method_graph.specs.Flows.{AreSteps, Goes, HasWay}
use Rattle.method_graph.proofs.Between.{points_within}
use Rattle.method_graph.proofs.heap_flows.heap_of.Goals as goal

pub find_ways-requires : goal.find_ways-requires
find_ways-requires c = subst (AreSteps c.args.input.now.points) (sym c.items.ensures) (λ k d lt. c.args.input.now.flow_within _ (Contains-get_or c.args.input.now.flow k d lt))

pub invariant_of-result : goal.invariant_of-result
invariant_of-result c =
    let i = c.args.input.now in
    record {
      puts_in_order = c.in_ok-puts.ensures.order;
      gets_in_order = c.in_ok-gets.ensures.order;
      entries_in_order = c.in_ok-entries.ensures.order;
      exits_in_order = c.in_ok-exits.ensures.order;
      puts_within = points_within c.items-2.result.now c.in_ok-puts.puts.items i.points c.in_ok-ways.ways.points c.in_ok-puts.ensures.members (subst (λ xs. (y : ℕ × NodeId × LocId) → Contains xs y → y.0 < i.points) (sym c.items-2.ensures) i.puts_within) c.in_ok-ways.ensures.points;
      gets_within = points_within c.items-3.result.now c.in_ok-gets.gets.items i.points c.in_ok-ways.ways.points c.in_ok-gets.ensures.members (subst (λ xs. (y : ℕ × NodeId × LocId) → Contains xs y → y.0 < i.points) (sym c.items-3.ensures) i.gets_within) c.in_ok-ways.ensures.points;
    }

pub returns : goal.returns
returns c =
    let i = c.args.input.now in
    record {
      points = c.in_ok-ways.ensures.points;
      ways = subst (λ flow. (p q : ℕ) → p < i.points → q < i.points → HasWay c.in_ok-ways.ways.width c.in_ok-ways.ways.words.items p q ↔ LeadsOn (Goes flow) p q) c.items.ensures c.in_ok-ways.ensures.ways;
      puts = subst (λ ys. (x : Access) → Contains c.in_ok-puts.puts.items x ↔ ((y : ℕ × NodeId × LocId) × Contains ys y × (x ≡ access_of y))) c.items-2.ensures c.in_ok-puts.ensures.members;
      gets = subst (λ ys. (x : Access) → Contains c.in_ok-gets.gets.items x ↔ ((y : ℕ × NodeId × LocId) × Contains ys y × (x ≡ access_of y))) c.items-3.ensures c.in_ok-gets.ensures.members;
      entries = λ x. let m = subst (λ ns. Contains c.in_ok-entries.entries.items x ↔ IsHead (λ l. HeapIn l) i.first.0 ns x) c.items-4.ensures (c.in_ok-entries.ensures.members x) in (λ h. let k = m.0 h in ((k.0, k.1), k.2), λ h. m.1 (h.0.0, h.0.1, h.1));
      exits = λ x. let m = subst (λ ns. Contains c.in_ok-exits.exits.items x ↔ IsHead (λ l. HeapOut l) i.first.0 ns x) c.items-5.ensures (c.in_ok-exits.ensures.members x) in (λ h. let k = m.0 h in ((k.0, k.1), k.2), λ h. m.1 (h.0.0, h.0.1, h.1));
    }
