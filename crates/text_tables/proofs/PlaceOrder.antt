-- The order of places of lines.
use Rattle.std.proofs.Common.{◌≡◌, ◌⊎◌, ◌<◌, ℕ, Bool, List, inl, inr, refl, sym, ap, ◌∙◌, arith}
use Rattle.std.specs.Prelude.{AllPairs}
use Rattle.std.specs.Ordering.{nat_cmp, ordering_then}
use Rattle.std.specs.Cmp.{nat_cmp_is}
use Rattle.std.specs.declared.cmp.Ordering.{Ordering}
use Rattle.std.specs.declared.cmp.Ordering.TheVariants.{Less, Equal}
use Rattle.slicer_ids.specs.Order.{StatementBefore}
use Rattle.slicer_ids.specs.declared.ids.ClassId.{ClassId}
use Rattle.slicer_ids.specs.declared.ids.Statement.{Statement}
use Rattle.worklist.proofs.Orders.{then_less, then_equal, nat_less}
use Rattle.dep_form.specs.Orders.{RiseBy, line_cmp, statement_cmp}
use Rattle.dep_form.proofs.Searching.{one_statement}
use Rattle.mod_ref.proofs.Sorting.{IsExactOrder}
use Rattle.text_tables.specs.LineGroups.{place_cmp}
use Rattle.text_tables.specs.contracts.lines.LinePlaceOrd.TheImpl as of_place
use Rattle.text_tables.specs.contracts.lines.LinePlacePartialEq.TheImpl as tested_place
use Rattle.text_tables.specs.declared.lines.LinePlace.{LinePlace}

abbrev pub place_eq : LinePlace → LinePlace → Bool
place_eq = (tested_place.ghosts).eq

-- a class and a line come before others
abbrev pub KeyBefore : ClassId → ℕ → ClassId → ℕ → Type 0
KeyBefore c l d n = (c.0 < d.0) ⊎ ((c.0 ≡ d.0) × (l < n))

same_class : (c d : ClassId) → c.0 ≡ d.0 → c ≡ d
same_class c d e = ap (λ (n : ℕ). record { 0 = n }) e

statement_before : (a b : Statement) → statement_cmp a b ≡ Less → StatementBefore a b
statement_before a b e = elim (then_less a.method.0 b.method.0 (nat_cmp a.pc b.pc) e) [
  | inl lt ↦ inl lt
  | inr same ↦ inr (ap (λ (n : ℕ). record { 0 = n }) same.0, nat_less a.pc b.pc same.1)
]

-- one place comes before another: by its line, or in one line by its statement
pub place_less : (a b : LinePlace) → place_cmp a b ≡ Less → KeyBefore a.class a.line b.class b.line ⊎ ((a.class ≡ b.class) × (a.line ≡ b.line) × StatementBefore a.place b.place)
place_less a b e = elim (then_less a.class.0 b.class.0 (ordering_then (nat_cmp a.line b.line) (statement_cmp a.place b.place)) e) [
  | inl lt ↦ inl (inl lt)
  | inr same ↦ elim (then_less a.line b.line (statement_cmp a.place b.place) same.1) [
    | inl lt ↦ inl (inr (same.0, lt))
    | inr line ↦ inr (same_class a.class b.class same.0, line.0, statement_before a.place b.place line.1)
  ]
]

pub place_is : (a b : LinePlace) → a.class ≡ b.class → a.line ≡ b.line → a.place ≡ b.place → a ≡ b
place_is a b c l t = rw (← c, ← l, ← t) refl

place_equal : (a b : LinePlace) → place_cmp a b ≡ Equal → a ≡ b
place_equal a b e =
    let class = then_equal a.class.0 b.class.0 (ordering_then (nat_cmp a.line b.line) (statement_cmp a.place b.place)) e in
    let line = then_equal a.line b.line (statement_cmp a.place b.place) class.1 in
    place_is a b (same_class a.class b.class class.0) line.0 (one_statement a.place b.place line.1)

pub places_exact : IsExactOrder place_eq place_cmp
places_exact = record { total = of_place.Laws.total-law; ties = of_place.Laws.matches_eq-law; exact = place_equal }

-- KEYS

pub key_trans : (c d e : ClassId) (l m n : ℕ) → KeyBefore c l d m → KeyBefore d m e n → KeyBefore c l e n
key_trans c d e l m n (inl a) (inl b) = inl (omega (arith, a, b))
key_trans c d e l m n (inl a) (inr b) = inl (omega (arith, a, b.0))
key_trans c d e l m n (inr a) (inl b) = inl (omega (arith, a.0, b))
key_trans c d e l m n (inr a) (inr b) = inr (omega (arith, a.0, b.0), omega (arith, a.1, b.1))

pub not_itself : (c d : ClassId) (l n : ℕ) → KeyBefore c l d n → c ≡ d → l ≡ n → ⊥
not_itself c d l n (inl lt) e f = omega (arith, lt, ap (λ (x : ClassId). x.0) e)
not_itself c d l n (inr b) e f = omega (arith, b.1, f)

pub key_less : (c d : ClassId) (l n : ℕ) → KeyBefore c l d n → line_cmp (c, l) (d, n) ≡ Less
key_less c d l n (inl lt) = ap (λ (o : Ordering). ordering_then o (nat_cmp l n)) (sym (nat_cmp_is c.0 d.0 Less lt))
key_less c d l n (inr b) =
    let tied : nat_cmp c.0 d.0 ≡ Equal = sym (nat_cmp_is c.0 d.0 Equal b.0) in
    ap (λ (o : Ordering). ordering_then o (nat_cmp l n)) tied ∙ sym (nat_cmp_is l n Less b.1)

-- places in order, as pairs
pub rise : (xs : List LinePlace) → RiseBy place_cmp (λ x. x) xs → AllPairs (λ a b. place_cmp a b ≡ Less) xs
rise xs h = h
