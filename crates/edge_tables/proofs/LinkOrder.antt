-- The order of calls, as it is compared.
use Rattle.std.proofs.Common.{◌≡◌, ◌⊎◌, ◌<◌, ◌≤◌, ℕ, Bool, List, AllPairs, get_or, inl, inr, refl, sym, ap, subst, ◌∙◌, arith}
use Rattle.std.specs.declared.cmp.Ordering.{Ordering}
use Rattle.std.specs.declared.cmp.Ordering.TheVariants.{Less, Equal}
use Rattle.std.specs.Ordering.{nat_cmp, ordering_then}
use Rattle.std.specs.List.Sorted.{IsNonDecreasingBy}
use Rattle.std.proofs.lemmas.Bool.{cases_lt}
use Rattle.slicer_ids.specs.declared.ids.CallId.{CallId}
use Rattle.slicer_ids.specs.declared.ids.MethodId.{MethodId}
use Rattle.dep_form.specs.Orders.{RiseBy}
use Rattle.worklist.proofs.Orders.{then_less, then_equal, nat_less, nat_equal}
use Rattle.mod_ref.proofs.Sorting.{IsExactOrder}
use Rattle.edge_tables.specs.declared.links.Link.{Link}
use Rattle.edge_tables.specs.contracts.links.LinkOrd.TheImpl as of_link
use Rattle.edge_tables.specs.contracts.links.LinkPartialEq.TheImpl as tested_link
use Rattle.edge_tables.specs.Links.{link_cmp}

abbrev pub link_eq : Link → Link → Bool
link_eq = (tested_link.ghosts).eq

method_is : (a b : MethodId) → a.0 ≡ b.0 → a ≡ b
method_is a b e = ap (λ (n : ℕ). record { 0 = n }) e

call_is : (a b : CallId) → a.0 ≡ b.0 → a ≡ b
call_is a b e = ap (λ (n : ℕ). record { 0 = n }) e

link_is : (a b : Link) → a.key ≡ b.key → a.number ≡ b.number → a.caller ≡ b.caller → a.pc ≡ b.pc → a.target ≡ b.target → a ≡ b
link_is a b k n c p t = rw (← k, ← n, ← c, ← p, ← t) refl

abbrev by_target : Link → Link → Ordering
by_target a b = nat_cmp a.target.0 b.target.0

abbrev by_pc : Link → Link → Ordering
by_pc a b = ordering_then (nat_cmp a.pc b.pc) (by_target a b)

abbrev by_caller : Link → Link → Ordering
by_caller a b = ordering_then (nat_cmp a.caller.0 b.caller.0) (by_pc a b)

abbrev by_number : Link → Link → Ordering
by_number a b = ordering_then (nat_cmp a.number.0 b.number.0) (by_caller a b)

link_equal : (a b : Link) → link_cmp a b ≡ Equal → a ≡ b
link_equal a b h =
    let k = then_equal a.key.0 b.key.0 (by_number a b) h in
    let n = then_equal a.number.0 b.number.0 (by_caller a b) k.1 in
    let c = then_equal a.caller.0 b.caller.0 (by_pc a b) n.1 in
    let p = then_equal a.pc b.pc (by_target a b) c.1 in
    link_is a b (method_is a.key b.key k.0) (call_is a.number b.number n.0) (method_is a.caller b.caller c.0) p.0 (method_is a.target b.target (nat_equal a.target.0 b.target.0 p.1))

pub links_exact : IsExactOrder link_eq link_cmp
links_exact = record { total = of_link.Laws.total-law; ties = of_link.Laws.matches_eq-law; exact = link_equal }

key_least : (a b : Link) → link_cmp a b ≡ Less → a.key.0 ≤ b.key.0
key_least a b h = elim (then_less a.key.0 b.key.0 (by_number a b) h) [
  | inl lt ↦ omega (arith, lt)
  | inr same ↦ omega (arith, same.0)
]

-- keys of calls in order don't fall
pub by_key : (xs : List Link) → RiseBy link_cmp (λ x. x) xs → IsNonDecreasingBy (λ (x : Link). x.key.0) xs
by_key xs order i j d le inside = elim (cases_lt i j) [
  | inl lt ↦ key_least (get_or xs i d) (get_or xs j d) (order i j d lt inside)
  | inr ge ↦ let e : i ≡ j = omega (arith, le, ge) in omega (arith, ap (λ (k : ℕ). (get_or xs k d).key.0) e)
]
