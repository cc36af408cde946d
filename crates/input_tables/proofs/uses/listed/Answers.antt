use Rattle.std.proofs.Common.{◌≡◌, ◌↔◌, ℕ, List, AllPairs, Contains, map}
use Rattle.std.proofs.lemmas.Result.{IfOk-weaker}
use Rattle.slicer_ids.specs.declared.ids.LocId.{LocId}
use Rattle.slicer_ids.specs.declared.ids.NodeId.{NodeId}
use Rattle.fact_form.specs.FactTables.{UseBefore}
use Rattle.input_tables.specs.Uses.{triple_of, use_of}
use Rattle.input_tables.proofs.UseOrder.{triples_members, triples_order}
use Rattle.input_tables.proofs.uses.listed.Goals as goal

pub returns-clause-order : goal.returns-clause-order
returns-clause-order c = IfOk-weaker c.triples.result (λ v. v.items ≡ map triple_of c.as_slice.result.now) (λ v. AllPairs UseBefore v.items)
    (λ v e. triples_order c.in_order-all.result.items c.as_slice.result.now v.items c.as_slice.ensures.value e c.in_order-all.ensures.order) c.triples.ensures

pub returns-clause-members : goal.returns-clause-members
returns-clause-members c = IfOk-weaker c.triples.result (λ v. v.items ≡ map triple_of c.as_slice.result.now) (λ v. (q : ℕ) (x : NodeId) (n : LocId) → Contains v.items (q, x, n) ↔ Contains c.args.uses.items (use_of q x.0 n))
    (λ v e. triples_members c.args.uses.items c.in_order-all.result.items c.as_slice.result.now v.items c.as_slice.ensures.value e c.in_order-all.ensures.members) c.triples.ensures
