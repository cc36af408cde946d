use Rattle.std.proofs.Common.{rules, List, ℕ, length, ◌≤◌, ◌<◌, ◌+◌, ◌^◌, subst, sym, ◌∙◌}
use Rattle.std.specs.Prelude.{Contains}
use Rattle.std.specs.List.Sorted.{IsPartitionedBy}
use Rattle.slicer_ids.specs.declared.ids.NodeId.{NodeId}
use Rattle.slicer_ids.specs.declared.ids.LocId.{LocId}
use Rattle.dep_form.specs.declared.node.Node.{Node}
use Rattle.dep_form.specs.declared.node.Edge.{Edge}
use Rattle.dep_form.specs.Nodes.{is_formal}
use Rattle.dep_form.specs.Among.{IsAmong, ArePoints}
use Rattle.graph_store.proofs.input.copy_input.Goals as goal

pub invariant_of-result : goal.invariant_of-result
invariant_of-result c =
    let i = c.args.input.now in
    let nodes = sym (c.in_ok-copy_list.ensures ∙ c.items.ensures) in
    let flow = sym (c.in_ok-copy_list-2.ensures ∙ c.items-2.ensures) in
    let direct = sym (c.in_ok-copy_list-3.ensures ∙ c.items-3.ensures) in
    let puts = sym (c.in_ok-copy_list-4.ensures ∙ c.items-4.ensures) in
    let gets = sym (c.in_ok-copy_list-5.ensures ∙ c.items-5.ensures) in
    record {
      small = subst (λ (ns : List Node). i.first.0 + length ns ≤ 2 ^ 32) nodes i.small;
      few = subst (λ (ns : List Node). length ns < 2 ^ 32) nodes i.few;
      formals_first = subst (λ (ns : List Node). IsPartitionedBy is_formal ns) nodes i.formals_first;
      ends = subst (λ (z : List Node × List Edge). (e : Edge) → Contains z.1 e → IsAmong i.first.0 z.0 e.to.0) (λ t. (nodes t, direct t)) i.ends;
      puts_among = subst (λ (z : List Node × List (ℕ × NodeId × LocId)). (p : ℕ × NodeId × LocId) → Contains z.1 p → IsAmong i.first.0 z.0 p.1.0) (λ t. (nodes t, puts t)) i.puts_among;
      gets_among = subst (λ (z : List Node × List (ℕ × NodeId × LocId)). (p : ℕ × NodeId × LocId) → Contains z.1 p → IsAmong i.first.0 z.0 p.1.0) (λ t. (nodes t, gets t)) i.gets_among;
      flow_within = subst (λ (ps : List (ℕ × ℕ)). (p : ℕ × ℕ) → Contains ps p → ArePoints i.points p.0 p.1) flow i.flow_within;
      puts_within = subst (λ (ps : List (ℕ × NodeId × LocId)). (p : ℕ × NodeId × LocId) → Contains ps p → p.0 < i.points) puts i.puts_within;
      gets_within = subst (λ (ps : List (ℕ × NodeId × LocId)). (p : ℕ × NodeId × LocId) → Contains ps p → p.0 < i.points) gets i.gets_within;
    }
