-- The order of nodes, as their numbers are compared.
use Rattle.std.proofs.Common.{◌≡◌, ℕ, Bool, List, ap}
use Rattle.std.specs.Prelude.{AllPairs}
use Rattle.std.specs.declared.cmp.Ordering.{Ordering}
use Rattle.std.specs.declared.cmp.Ordering.TheVariants.{Less, Equal}
use Rattle.dep_form.specs.WithinFacts.{NodeBefore}
use Rattle.slicer_ids.specs.contracts.ids.NodeIdOrd.TheImpl as of_node
use Rattle.slicer_ids.specs.contracts.ids.NodeIdPartialEq.TheImpl as tested_node
use Rattle.slicer_ids.specs.declared.ids.NodeId.{NodeId}
use Rattle.dep_form.specs.Orders.{RiseBy}
use Rattle.worklist.proofs.Orders.{nat_less, nat_equal}
use Rattle.mod_ref.proofs.Sorting.{IsExactOrder}

abbrev pub node_cmp : NodeId → NodeId → Ordering
node_cmp = (of_node.ghosts).cmp

abbrev pub node_eq : NodeId → NodeId → Bool
node_eq = (tested_node.ghosts).eq

node_less : (a b : NodeId) → node_cmp a b ≡ Less → NodeBefore a b
node_less a b h = nat_less a.0 b.0 h

node_equal : (a b : NodeId) → node_cmp a b ≡ Equal → a ≡ b
node_equal a b h = ap (λ (n : ℕ). record { 0 = n }) (nat_equal a.0 b.0 h)

pub nodes_exact : IsExactOrder node_eq node_cmp
nodes_exact = record { total = of_node.Laws.total-law; ties = of_node.Laws.matches_eq-law; exact = node_equal }

pub in_order : (xs : List NodeId) → RiseBy node_cmp (λ h. h) xs → AllPairs NodeBefore xs
in_order xs rise = λ i j d lt within. node_less _ _ (rise i j d lt within)
