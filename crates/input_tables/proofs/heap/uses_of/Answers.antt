use Rattle.std.proofs.Common.{◌≡◌, ◌↔◌, ℕ, List, Contains}
use Rattle.std.proofs.lemmas.Result.{IfOk-weaker}
use Rattle.slicer_ids.specs.declared.ids.LocId.{LocId}
use Rattle.slicer_ids.specs.declared.ids.NodeId.{NodeId}
use Rattle.input_tables.specs.Uses.{AreUsesOf, use_of}
use Rattle.input_tables.proofs.heap.uses_of.Goals as goal

pub all_of-requires-clause-order : goal.all_of-requires-clause-order
all_of-requires-clause-order c = c.points_of-points.ensures.order

pub returns-clause-members : goal.returns-clause-members
returns-clause-members c = IfOk-weaker c.listed.result (λ v. (q : ℕ) (x : NodeId) (n : LocId) → Contains v.items (q, x, n) ↔ Contains c.in_ok-uses.uses.items (use_of q x.0 n)) (λ v. AreUsesOf c.args.bodies.now c.args.m c.args.first c.args.row.now c.args.write c.args.own.now c.args.results.now v.items)
    (λ v is. (c.points_of-points.result.now, c.points_of-points.ensures, λ q x n. let a = is q x n in let b = c.in_ok-uses.ensures (use_of q x.0 n) in (λ h. b.0 (a.0 h), λ h. a.1 (b.1 h)))) c.listed.ensures.members
