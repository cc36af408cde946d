-- The order of facts.
use Rattle.std.proofs.Common.{◌≡◌, ◌<◌, ℕ, Bool, true, List, [], ◌∷◌, AllPairs, ◌⊎◌, inl, inr, refl, sym, ap, ◌∙◌, arith}
use Rattle.std.specs.declared.cmp.Ordering.{Ordering}
use Rattle.std.specs.declared.cmp.Ordering.TheVariants.{Less, Equal, Greater}
use Rattle.std.specs.Ordering.{nat_cmp, ordering_then, MatchOrdering, eq_by_cmp, is_eq}
use Rattle.std.specs.Cmp.{IsTotalOrder, IsEquivalence}
use Rattle.std.specs.List.Sorted.{IsStrictlySortedBy}
use Rattle.std.proofs.lemmas.Cmp.{ranked, eq_by_cmp_equiv}
use Rattle.std.proofs.lemmas.List.Elements.{All-from_recursion, All-weaker}
use Rattle.std.proofs.lemmas.List.Kept.{AllPairs-cons}
use Rattle.class_form.specs.declared.body.Def.{Def}
use Rattle.class_form.specs.declared.body.Def.TheVariants.{Formal, Value, Caught}
use Rattle.class_form.specs.contracts.body.DefOrd.TheImpl as of_def
use Rattle.class_form.specs.Reaches.{DefBefore}
use Rattle.reaching_defs.specs.declared.spread.Fact.{Fact}
use Rattle.reaching_defs.specs.contracts.spread.FactOrd.TheImpl as of_fact
use Rattle.reaching_defs.specs.contracts.spread.FactPartialEq.TheImpl as tested
use Rattle.reaching_defs.specs.Facts.{FactBefore}

abbrev pub def_cmp : Def → Def → Ordering
def_cmp = (of_def.ghosts).cmp

abbrev pub fact_cmp : Fact → Fact → Ordering
fact_cmp = (of_fact.ghosts).cmp

abbrev pub fact_eq : Fact → Fact → Bool
fact_eq = (tested.ghosts).eq

by_then : (r o : Ordering) (A B C : Type 0) → MatchOrdering r A B C → ordering_then r o ≡ Less → A ⊎ (B × (o ≡ Less))
by_then Less o A B C m e = inl m
by_then Equal o A B C m e = inr (m, e)
by_then Greater o A B C m e = absurd cc

then_less : (x y : ℕ) (o : Ordering) → ordering_then (nat_cmp x y) o ≡ Less → (x < y) ⊎ ((x ≡ y) × (o ≡ Less))
then_less x y o e = by_then (nat_cmp x y) o (x < y) (x ≡ y) (y < x) (ranked x y (nat_cmp x y) refl) e

by_equal : (r o : Ordering) (A B C : Type 0) → MatchOrdering r A B C → ordering_then r o ≡ Equal → B × (o ≡ Equal)
by_equal Less o A B C m e = absurd cc
by_equal Equal o A B C m e = (m, e)
by_equal Greater o A B C m e = absurd cc

then_equal : (x y : ℕ) (o : Ordering) → ordering_then (nat_cmp x y) o ≡ Equal → (x ≡ y) × (o ≡ Equal)
then_equal x y o e = by_equal (nat_cmp x y) o (x < y) (x ≡ y) (y < x) (ranked x y (nat_cmp x y) refl) e

if_less : (r : Ordering) (A B C : Type 0) → MatchOrdering r A B C → r ≡ Less → A
if_less Less A B C m e = m
if_less Equal A B C m e = absurd cc
if_less Greater A B C m e = absurd cc

if_equal : (r : Ordering) (A B C : Type 0) → MatchOrdering r A B C → r ≡ Equal → B
if_equal Less A B C m e = absurd cc
if_equal Equal A B C m e = m
if_equal Greater A B C m e = absurd cc

nat_less : (x y : ℕ) → nat_cmp x y ≡ Less → x < y
nat_less x y e = if_less (nat_cmp x y) (x < y) (x ≡ y) (y < x) (ranked x y (nat_cmp x y) refl) e

nat_equal : (x y : ℕ) → nat_cmp x y ≡ Equal → x ≡ y
nat_equal x y e = if_equal (nat_cmp x y) (x < y) (x ≡ y) (y < x) (ranked x y (nat_cmp x y) refl) e

def_less : (d e : Def) → def_cmp d e ≡ Less → DefBefore d e
def_less (Formal i) (Formal j) h = nat_less i j h
def_less (Formal i) (Value q) h = tt
def_less (Formal i) (Caught q) h = tt
def_less (Value p) (Formal j) h = absurd cc
def_less (Value p) (Value q) h = nat_less p q h
def_less (Value p) (Caught q) h = tt
def_less (Caught p) (Formal j) h = absurd cc
def_less (Caught p) (Value q) h = absurd cc
def_less (Caught p) (Caught q) h = nat_less p q h

def_equal : (d e : Def) → def_cmp d e ≡ Equal → d ≡ e
def_equal (Formal i) (Formal j) h = ap (λ (n : ℕ). Formal n) (nat_equal i j h)
def_equal (Formal i) (Value q) h = absurd cc
def_equal (Formal i) (Caught q) h = absurd cc
def_equal (Value p) (Formal j) h = absurd cc
def_equal (Value p) (Value q) h = ap (λ (n : ℕ). Value n) (nat_equal p q h)
def_equal (Value p) (Caught q) h = absurd cc
def_equal (Caught p) (Formal j) h = absurd cc
def_equal (Caught p) (Value q) h = absurd cc
def_equal (Caught p) (Caught q) h = ap (λ (n : ℕ). Caught n) (nat_equal p q h)

fact_less : (a b : Fact) → fact_cmp a b ≡ Less → FactBefore a b
fact_less a b h = elim (then_less a.pc b.pc (ordering_then (nat_cmp a.slot b.slot) (def_cmp a.def b.def)) h) [
  | inl lt ↦ inl lt
  | inr same ↦ inr (same.0, elim (then_less a.slot b.slot (def_cmp a.def b.def) same.1) [ inl lt ↦ inl lt | inr slot ↦ inr (slot.0, def_less a.def b.def slot.1) ])
]

made : (a : Fact) (pc slot : ℕ) (def : Def) → a.pc ≡ pc → a.slot ≡ slot → a.def ≡ def → a ≡ record { pc = pc; slot = slot; def = def }
made a pc slot def p s d = rw (← p, ← s, ← d) refl

fact_equal : (a b : Fact) → fact_cmp a b ≡ Equal → a ≡ b
fact_equal a b h =
    let pc = then_equal a.pc b.pc (ordering_then (nat_cmp a.slot b.slot) (def_cmp a.def b.def)) h in
    let slot = then_equal a.slot b.slot (def_cmp a.def b.def) pc.1 in
    made a b.pc b.slot b.def pc.0 slot.0 (def_equal a.def b.def slot.1)

pub facts_total : IsTotalOrder fact_cmp
facts_total = of_fact.Laws.total-law

pub fact_ties : (a b : Fact) → fact_eq a b ≡ eq_by_cmp fact_cmp a b
fact_ties = of_fact.Laws.matches_eq-law

if_is_eq : (r : Ordering) → is_eq r ≡ true → r ≡ Equal
if_is_eq Less e = absurd cc
if_is_eq Equal e = refl
if_is_eq Greater e = absurd cc

pub same_fact : (a b : Fact) → fact_eq a b ≡ true → a ≡ b
same_fact a b h = fact_equal a b (if_is_eq (fact_cmp a b) (sym (fact_ties a b) ∙ h))

pub fact_equiv : IsEquivalence fact_eq
fact_equiv =
    let e = eq_by_cmp_equiv facts_total in
    record {
      refl = λ x. fact_ties x x ∙ e.refl x;
      symm = λ x y. fact_ties x y ∙ e.symm x y ∙ sym (fact_ties y x);
      congr = λ x y z h. fact_ties x z ∙ e.congr x y z (sym (fact_ties x y) ∙ h) ∙ sym (fact_ties y z);
    }

pub in_pairs : (xs : List Fact) → IsStrictlySortedBy fact_cmp xs → AllPairs FactBefore xs
unfolding IsStrictlySortedBy
in_pairs [] h = λ i j d lt within. absurd (omega arith)
in_pairs (x ∷ xs) h = AllPairs-cons FactBefore x xs (All-weaker (λ y. fact_cmp x y ≡ Less) (FactBefore x) (λ y e. fact_less x y e) xs (All-from_recursion (λ y. fact_cmp x y ≡ Less) xs h.0)) (in_pairs xs h.1)
