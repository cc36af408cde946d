-- The order of edges, as it is compared.
use Rattle.std.proofs.Common.{◌≡◌, ◌⊎◌, ◌<◌, ℕ, Bool, List, AllPairs, inl, inr, refl, ap, arith}
use Rattle.std.specs.declared.cmp.Ordering.{Ordering}
use Rattle.std.specs.declared.cmp.Ordering.TheVariants.{Less, Equal}
use Rattle.std.specs.Ordering.{nat_cmp, ordering_then}
use Rattle.slicer_ids.specs.declared.ids.NodeId.{NodeId}
use Rattle.dep_form.specs.declared.node.Edge.{Edge}
use Rattle.dep_form.specs.declared.node.Label.{Label}
use Rattle.dep_form.specs.declared.node.Label.TheVariants.{Thin, Base, Call, Return}
use Rattle.dep_form.specs.contracts.node.EdgeOrd.TheImpl as of_edge
use Rattle.dep_form.specs.contracts.node.EdgePartialEq.TheImpl as tested_edge
use Rattle.dep_form.specs.contracts.node.LabelOrd.TheImpl as of_label
use Rattle.dep_form.specs.Graphs.{EdgeBefore, label_call, label_kind}
use Rattle.dep_form.specs.Orders.{RiseBy}
use Rattle.worklist.proofs.Orders.{then_less, then_equal, nat_less, nat_equal}
use Rattle.mod_ref.proofs.Sorting.{IsExactOrder}

abbrev label_cmp : Label → Label → Ordering
label_cmp = (of_label.ghosts).cmp

abbrev pub edge_cmp : Edge → Edge → Ordering
edge_cmp = (of_edge.ghosts).cmp

abbrev pub edge_eq : Edge → Edge → Bool
edge_eq = (tested_edge.ghosts).eq

-- ---- labels
abbrev LabelBefore : Label → Label → Type 0
LabelBefore a b = (label_kind a < label_kind b) ⊎ ((label_kind a ≡ label_kind b) × (label_call a < label_call b))

label_less : (a b : Label) → label_cmp a b ≡ Less → LabelBefore a b
label_less Thin Thin h = absurd cc
label_less Thin Base h = inl (omega arith)
label_less Thin (Call c) h = inl (omega arith)
label_less Thin (Return c) h = inl (omega arith)
label_less Base Thin h = absurd cc
label_less Base Base h = absurd cc
label_less Base (Call c) h = inl (omega arith)
label_less Base (Return c) h = inl (omega arith)
label_less (Call c) Thin h = absurd cc
label_less (Call c) Base h = absurd cc
label_less (Call c) (Call d) h = inr (refl, nat_less c.0 d.0 h)
label_less (Call c) (Return d) h = inl (omega arith)
label_less (Return c) Thin h = absurd cc
label_less (Return c) Base h = absurd cc
label_less (Return c) (Call d) h = absurd cc
label_less (Return c) (Return d) h = inr (refl, nat_less c.0 d.0 h)

label_equal : (a b : Label) → label_cmp a b ≡ Equal → a ≡ b
label_equal Thin Thin h = refl
label_equal Thin Base h = absurd cc
label_equal Thin (Call c) h = absurd cc
label_equal Thin (Return c) h = absurd cc
label_equal Base Thin h = absurd cc
label_equal Base Base h = refl
label_equal Base (Call c) h = absurd cc
label_equal Base (Return c) h = absurd cc
label_equal (Call c) Thin h = absurd cc
label_equal (Call c) Base h = absurd cc
label_equal (Call c) (Call d) h = ap (λ (n : ℕ). Call (record { 0 = n })) (nat_equal c.0 d.0 h)
label_equal (Call c) (Return d) h = absurd cc
label_equal (Return c) Thin h = absurd cc
label_equal (Return c) Base h = absurd cc
label_equal (Return c) (Call d) h = absurd cc
label_equal (Return c) (Return d) h = ap (λ (n : ℕ). Return (record { 0 = n })) (nat_equal c.0 d.0 h)

-- ---- edges
node_equal : (a b : NodeId) → a.0 ≡ b.0 → a ≡ b
node_equal a b e = ap (λ (n : ℕ). record { 0 = n }) e

pub edge_is : (a b : Edge) → a.from.0 ≡ b.from.0 → a.to.0 ≡ b.to.0 → a.label ≡ b.label → a ≡ b
edge_is a b f t l = made a b (node_equal a.from b.from f) (node_equal a.to b.to t) l
  where
    made : (a b : Edge) → a.from ≡ b.from → a.to ≡ b.to → a.label ≡ b.label → a ≡ b
    made a b f t l = rw (← f, ← t, ← l) refl

edge_less : (a b : Edge) → edge_cmp a b ≡ Less → EdgeBefore a b
edge_less a b h = elim (then_less a.from.0 b.from.0 (ordering_then (nat_cmp a.to.0 b.to.0) (label_cmp a.label b.label)) h) [
  | inl lt ↦ inl lt
  | inr same ↦ inr (node_equal a.from b.from same.0, elim (then_less a.to.0 b.to.0 (label_cmp a.label b.label) same.1) [ inl lt ↦ inl lt | inr to ↦ inr (node_equal a.to b.to to.0, label_less a.label b.label to.1) ])
]

edge_equal : (a b : Edge) → edge_cmp a b ≡ Equal → a ≡ b
edge_equal a b h =
    let from = then_equal a.from.0 b.from.0 (ordering_then (nat_cmp a.to.0 b.to.0) (label_cmp a.label b.label)) h in
    let to = then_equal a.to.0 b.to.0 (label_cmp a.label b.label) from.1 in
    edge_is a b from.0 to.0 (label_equal a.label b.label to.1)

pub edges_exact : IsExactOrder edge_eq edge_cmp
edges_exact = record { total = of_edge.Laws.total-law; ties = of_edge.Laws.matches_eq-law; exact = edge_equal }

pub edges_rise : (xs : List Edge) → RiseBy edge_cmp (λ x. x) xs → AllPairs EdgeBefore xs
edges_rise xs h = λ i j d lt within. edge_less _ _ (h i j d lt within)
