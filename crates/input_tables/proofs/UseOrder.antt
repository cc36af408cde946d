-- The order of uses, and uses as triples.
use Rattle.std.proofs.Common.{◌≡◌, ◌⊎◌, ◌↔◌, ◌<◌, ℕ, Bool, List, AllPairs, Contains, get_or, map, inl, inr, refl, sym, ap, subst, ◌∙◌, arith}
use Rattle.std.specs.declared.cmp.Ordering.{Ordering}
use Rattle.std.specs.declared.cmp.Ordering.TheVariants.{Less, Equal}
use Rattle.std.specs.Ordering.{nat_cmp, ordering_then}
use Rattle.slicer_ids.specs.declared.ids.LocId.{LocId}
use Rattle.slicer_ids.specs.declared.ids.NodeId.{NodeId}
use Rattle.class_form.proofs.Indices.{index_in, there_at}
use Rattle.dep_form.specs.Orders.{RiseBy}
use Rattle.worklist.proofs.Orders.{then_less, then_equal, nat_less, nat_equal}
use Rattle.fact_form.specs.FactTables.{UseBefore}
use Rattle.fact_form.proofs.ItemLists.{map_at, mapped, pair_at, pairs_of}
use Rattle.mod_ref.proofs.Sorting.{IsExactOrder}
use Rattle.input_tables.specs.declared.uses.Use.{Use}
use Rattle.input_tables.specs.contracts.uses.UseOrd.TheImpl as of_use
use Rattle.input_tables.specs.contracts.uses.UsePartialEq.TheImpl as tested_use
use Rattle.input_tables.specs.Uses.{IsBefore, triple_of, use_of}

abbrev pub use_cmp : Use → Use → Ordering
use_cmp = (of_use.ghosts).cmp

abbrev pub use_eq : Use → Use → Bool
use_eq = (tested_use.ghosts).eq

use_is : (a b : Use) → a.point ≡ b.point → a.node ≡ b.node → a.location ≡ b.location → a ≡ b
use_is a b p q r = rw (← p, ← q, ← r) refl

node_is : (a b : NodeId) → a.0 ≡ b.0 → a ≡ b
node_is a b e = ap (λ (n : ℕ). record { 0 = n }) e

location_is : (a b : LocId) → a.0 ≡ b.0 → a ≡ b
location_is a b e = ap (λ (n : ℕ). record { 0 = n }) e

use_equal : (a b : Use) → use_cmp a b ≡ Equal → a ≡ b
use_equal a b h =
    let p = then_equal a.point b.point (ordering_then (nat_cmp a.node.0 b.node.0) (nat_cmp a.location.0 b.location.0)) h in
    let n = then_equal a.node.0 b.node.0 (nat_cmp a.location.0 b.location.0) p.1 in
    use_is a b p.0 (node_is a.node b.node n.0) (location_is a.location b.location (nat_equal a.location.0 b.location.0 n.1))

pub uses_exact : IsExactOrder use_eq use_cmp
uses_exact = record { total = of_use.Laws.total-law; ties = of_use.Laws.matches_eq-law; exact = use_equal }

use_less : (a b : Use) → use_cmp a b ≡ Less → IsBefore a b
use_less a b h = elim (then_less a.point b.point (ordering_then (nat_cmp a.node.0 b.node.0) (nat_cmp a.location.0 b.location.0)) h) [
  | inl lt ↦ inl lt
  | inr p ↦ inr (
    p.0,
    elim (then_less a.node.0 b.node.0 (nat_cmp a.location.0 b.location.0) p.1) [
      | inl lt ↦ inl lt
      | inr n ↦ inr (node_is a.node b.node n.0, nat_less a.location.0 b.location.0 n.1)
    ],
  )
]

pub uses_rise : (xs : List Use) → RiseBy use_cmp (λ x. x) xs → AllPairs IsBefore xs
uses_rise xs h = λ i j d lt within. use_less (get_or xs i d) (get_or xs j d) (h i j d lt within)

abbrev Triple : Type 0
Triple = ℕ × NodeId × LocId

pub triples_order : (all slice : List Use) (triples : List (ℕ × NodeId × LocId)) → slice ≡ all → triples ≡ map triple_of slice → AllPairs IsBefore all → AllPairs UseBefore triples
triples_order all slice triples same e order = subst (AllPairs UseBefore) (sym (e ∙ ap (map triple_of) same)) (pairs_of UseBefore (map triple_of all) (λ i j x y lt at there.
    let a = mapped triple_of all i x at in
    let b = mapped triple_of all j y there in
    subst (λ z. UseBefore z y) a.2 (subst (λ z. UseBefore (triple_of a.0) z) b.2 (pair_at IsBefore all order i j a.0 b.0 lt a.1 b.1))))

pub triples_members : (old all slice : List Use) (triples : List (ℕ × NodeId × LocId)) → slice ≡ all → triples ≡ map triple_of slice → ((x : Use) → Contains all x ↔ Contains old x) → (q : ℕ) (x : NodeId) (n : LocId)
    → Contains triples (q, x, n) ↔ Contains old (use_of q x.0 n)
triples_members old all slice triples same e members q x n = (to, from)
  where
    is : triples ≡ map triple_of all
    is = e ∙ ap (map triple_of) same

    to : Contains triples (q, x, n) → Contains old (use_of q x.0 n)
    to c =
        let i = index_in (map triple_of all) (q, x, n) (subst (λ (ys : List Triple). Contains ys (q, x, n)) is c) in
        let w = mapped triple_of all i.0 (q, x, n) i.1 in
        let y : w.0 ≡ use_of q x.0 n = ap (λ (z : Triple). use_of z.0 z.1.0 z.2) w.2 in
        (members (use_of q x.0 n)).0 (subst (Contains all) y (there_at all i.0 w.0 w.1))

    from : Contains old (use_of q x.0 n) → Contains triples (q, x, n)
    from c =
        let i = index_in all (use_of q x.0 n) ((members (use_of q x.0 n)).1 c) in
        subst (λ (ys : List Triple). Contains ys (q, x, n)) (sym is) (there_at (map triple_of all) i.0 (q, x, n) (map_at triple_of all i.0 (use_of q x.0 n) i.1))
