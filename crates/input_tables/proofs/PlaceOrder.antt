-- The order of nodes, as it is compared.
use Rattle.std.proofs.Common.{◌≡◌, ◌⊎◌, ◌<◌, ◌≤◌, ℕ, nat_eq, cond, List, AllPairs, get_or, Some, inl, inr, refl, sym, ap, ◌∙◌, arith}
use Rattle.std.specs.Prelude.{slice_get}
use Rattle.std.specs.declared.cmp.Ordering.{Ordering}
use Rattle.std.specs.declared.cmp.Ordering.TheVariants.{Less, Equal}
use Rattle.std.specs.Ordering.{nat_cmp, ordering_then}
use Rattle.std.specs.Cmp.{IsTotalOrder, nat_cmp_is}
use Rattle.std.proofs.lemmas.Bool.{cases_lt}
use Rattle.slicer_ids.specs.declared.ids.LocId.{LocId}
use Rattle.dep_form.specs.declared.node.Node.{Node}
use Rattle.dep_form.specs.declared.node.Node.TheVariants.{Formal, HeapIn, Own, Argument, Result, Exception, HeapArg, HeapResult, Return, Thrown, HeapOut}
use Rattle.dep_form.specs.Nodes.{ComesBefore, Rank, rank}
use Rattle.dep_form.specs.Orders.{RiseBy}
use Rattle.worklist.proofs.Orders.{nat_equal, then_equal}
use Rattle.fact_form.proofs.ItemLists.{pair_at}
use Rattle.node_tables.proofs.Calls.{compares_equal}
use Rattle.input_tables.specs.declared.places.Place.{Place}
use Rattle.input_tables.specs.contracts.places.PlaceOrd.TheImpl as of_place
use Rattle.input_tables.specs.Places.{place_cmp, place_of}

pub places_total : IsTotalOrder place_cmp
places_total = of_place.Laws.total-law

made : (a b : Place) → a.group ≡ b.group → a.pc ≡ b.pc → a.part ≡ b.part → a.number ≡ b.number → a ≡ b
made a b g p q n = rw (← g, ← p, ← q, ← n) refl

place_equal : (a b : Place) → place_cmp a b ≡ Equal → a ≡ b
place_equal a b h =
    let g = then_equal a.group b.group (ordering_then (nat_cmp a.pc b.pc) (ordering_then (nat_cmp a.part b.part) (nat_cmp a.number b.number))) h in
    let p = then_equal a.pc b.pc (ordering_then (nat_cmp a.part b.part) (nat_cmp a.number b.number)) g.1 in
    let q = then_equal a.part b.part (nat_cmp a.number b.number) p.1 in
    made a b g.0 p.0 q.0 (nat_equal a.number b.number q.1)

abbrev loc : ℕ → LocId
loc n = record { 0 = n }

-- the node that stands there
abbrev of_statement : Place → Node
of_statement p =
    cond (nat_eq p.part 0) (Own p.pc) (cond (nat_eq p.part 1) (Argument p.pc p.number) (cond (nat_eq p.part 2) (Result p.pc)
    (cond (nat_eq p.part 3) (Exception p.pc) (cond (nat_eq p.part 4) (HeapArg p.pc (loc p.number)) (HeapResult p.pc (loc p.number))))))

abbrev node_of : Place → Node
node_of p =
    cond (nat_eq p.group 0) (Formal p.number) (cond (nat_eq p.group 1) (HeapIn (loc p.number)) (cond (nat_eq p.group 2) (of_statement p)
    (cond (nat_eq p.group 3) Return (cond (nat_eq p.group 4) Thrown (HeapOut (loc p.number))))))

back : (k : Node) → node_of (place_of k) ≡ k
back (Formal i) = refl
back (HeapIn l) = refl
back (Own pc) = refl
back (Argument pc i) = refl
back (Result pc) = refl
back (Exception pc) = refl
back (HeapArg pc l) = refl
back (HeapResult pc l) = refl
back Return = refl
back Thrown = refl
back (HeapOut l) = refl

pub one_node : (a b : Node) → place_cmp (place_of a) (place_of b) ≡ Equal → a ≡ b
one_node a b e = sym (back a) ∙ ap node_of (place_equal (place_of a) (place_of b) e) ∙ back b

-- ---- before, as it is compared
abbrev from_rank : Rank → Place
from_rank r = record { group = r.group; pc = r.pc; part = r.part; number = r.number }

ranked : (k : Node) → place_of k ≡ from_rank (rank k)
ranked (Formal i) = refl
ranked (HeapIn l) = refl
ranked (Own pc) = refl
ranked (Argument pc i) = refl
ranked (Result pc) = refl
ranked (Exception pc) = refl
ranked (HeapArg pc l) = refl
ranked (HeapResult pc l) = refl
ranked Return = refl
ranked Thrown = refl
ranked (HeapOut l) = refl

then_first : (x y : ℕ) (o : Ordering) → x < y → ordering_then (nat_cmp x y) o ≡ Less
then_first x y o lt = ap (λ (r : Ordering). ordering_then r o) (sym (nat_cmp_is x y Less lt))

then_next : (x y : ℕ) (o : Ordering) → x ≡ y → o ≡ Less → ordering_then (nat_cmp x y) o ≡ Less
then_next x y o e less = ap (λ (r : Ordering). ordering_then r o) (compares_equal x y e) ∙ less

less : (a b : Place) → (a.group < b.group) ⊎ ((a.group ≡ b.group) × ((a.pc < b.pc) ⊎ ((a.pc ≡ b.pc) × ((a.part < b.part) ⊎ ((a.part ≡ b.part) × (a.number < b.number)))))) → place_cmp a b ≡ Less
less a b (inl lt) = then_first a.group b.group _ lt
less a b (inr (g, inl lt)) = then_next a.group b.group _ g (then_first a.pc b.pc _ lt)
less a b (inr (g, inr (p, inl lt))) = then_next a.group b.group _ g (then_next a.pc b.pc _ p (then_first a.part b.part _ lt))
less a b (inr (g, inr (p, inr (q, lt)))) = then_next a.group b.group _ g (then_next a.pc b.pc _ p (then_next a.part b.part _ q (sym (nat_cmp_is a.number b.number Less lt))))

before_less : (a b : Node) → ComesBefore a b → place_cmp (place_of a) (place_of b) ≡ Less
before_less a b h =
    ap (λ (p : Place). place_cmp p (place_of b)) (ranked a) ∙ ap (λ (p : Place). place_cmp (from_rank (rank a)) p) (ranked b) ∙ less (from_rank (rank a)) (from_rank (rank b)) h

pub row_rises : (row : List Node) → AllPairs ComesBefore row → RiseBy place_cmp place_of row
row_rises row order = λ i j d lt within. before_less (get_or row i d) (get_or row j d) (order i j d lt within)

-- ---- a node has one place
never : (k : Node) → ComesBefore k k → ⊥
never k (inl lt) = omega (arith, lt)
never k (inr (g, inl lt)) = omega (arith, lt)
never k (inr (g, inr (p, inl lt))) = omega (arith, lt)
never k (inr (g, inr (p, inr (q, lt)))) = omega (arith, lt)

pub one_place : (row : List Node) → AllPairs ComesBefore row → (i j : ℕ) (k : Node) → slice_get row i ≡ Some k → slice_get row j ≡ Some k → i ≡ j
one_place row order i j k at there = elim (cases_lt i j) [
  | inl lt ↦ absurd (never k (pair_at ComesBefore row order i j k k lt at there))
  | inr ge ↦ elim (cases_lt j i) [ inl lt ↦ absurd (never k (pair_at ComesBefore row order j i k k lt there at)) | inr le ↦ omega (arith, ge, le) ]
]
