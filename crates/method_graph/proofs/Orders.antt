-- The order of edges by where they end.
use Rattle.std.proofs.Common.{◌≡◌, ◌<◌, ◌≤◌, ℕ, Bool, true, List, [], ◌∷◌, AllPairs, ◌⊎◌, inl, inr, refl, sym, ap, ◌∙◌, arith, get_or}
use Rattle.std.specs.declared.cmp.Ordering.{Ordering}
use Rattle.std.specs.declared.cmp.Ordering.TheVariants.{Less, Equal, Greater}
use Rattle.std.specs.Ordering.{nat_cmp, ordering_then, MatchOrdering, eq_by_cmp, is_eq}
use Rattle.std.specs.Cmp.{IsTotalOrder, IsEquivalence}
use Rattle.std.specs.List.Sorted.{IsStrictlySortedBy, IsNonDecreasingBy}
use Rattle.std.proofs.lemmas.Bool.{cases_lt}
use Rattle.std.proofs.lemmas.Cmp.{ranked, eq_by_cmp_equiv}
use Rattle.std.proofs.lemmas.List.Elements.{All-from_recursion, All-weaker}
use Rattle.std.proofs.lemmas.List.Kept.{AllPairs-cons}
use Rattle.slicer_ids.specs.declared.ids.NodeId.{NodeId}
use Rattle.dep_form.specs.declared.node.Label.{Label}
use Rattle.dep_form.specs.declared.node.Label.TheVariants.{Thin, Base, Call, Return}
use Rattle.dep_form.specs.contracts.node.LabelOrd.TheImpl as of_label
use Rattle.dep_form.specs.Graphs.{label_kind, label_call}
use Rattle.method_graph.specs.declared.edges.Ending.{Ending}
use Rattle.method_graph.specs.contracts.edges.EndingOrd.TheImpl as of_ending
use Rattle.method_graph.specs.contracts.edges.EndingPartialEq.TheImpl as tested
use Rattle.method_graph.specs.Edges.{EndingBefore}

abbrev pub label_cmp : Label → Label → Ordering
label_cmp = (of_label.ghosts).cmp

abbrev pub ending_cmp : Ending → Ending → Ordering
ending_cmp = (of_ending.ghosts).cmp

abbrev pub ending_eq : Ending → Ending → Bool
ending_eq = (tested.ghosts).eq

by_then : (r o : Ordering) (A B C : Type 0) → MatchOrdering r A B C → ordering_then r o ≡ Less → A ⊎ (B × (o ≡ Less))
by_then Less o A B C m e = inl m
by_then Equal o A B C m e = inr (m, e)
by_then Greater o A B C m e = absurd cc

then_less : (x y : ℕ) (o : Ordering) → ordering_then (nat_cmp x y) o ≡ Less → (x < y) ⊎ ((x ≡ y) × (o ≡ Less))
then_less x y o e = by_then (nat_cmp x y) o (x < y) (x ≡ y) (y < x) (ranked x y (nat_cmp x y) refl) e

by_equal : (r o : Ordering) (A B C : Type 0) → MatchOrdering r A B C → ordering_then r o ≡ Equal → B × (o ≡ Equal)
by_equal Less o A B C m e = absurd cc
by_equal Equal o A B C m e = (m, e)
by_equal Greater o A B C m e = absurd cc

then_equal : (x y : ℕ) (o : Ordering) → ordering_then (nat_cmp x y) o ≡ Equal → (x ≡ y) × (o ≡ Equal)
then_equal x y o e = by_equal (nat_cmp x y) o (x < y) (x ≡ y) (y < x) (ranked x y (nat_cmp x y) refl) e

if_less : (r : Ordering) (A B C : Type 0) → MatchOrdering r A B C → r ≡ Less → A
if_less Less A B C m e = m
if_less Equal A B C m e = absurd cc
if_less Greater A B C m e = absurd cc

if_equal : (r : Ordering) (A B C : Type 0) → MatchOrdering r A B C → r ≡ Equal → B
if_equal Less A B C m e = absurd cc
if_equal Equal A B C m e = m
if_equal Greater A B C m e = absurd cc

nat_less : (x y : ℕ) → nat_cmp x y ≡ Less → x < y
nat_less x y e = if_less (nat_cmp x y) (x < y) (x ≡ y) (y < x) (ranked x y (nat_cmp x y) refl) e

nat_equal : (x y : ℕ) → nat_cmp x y ≡ Equal → x ≡ y
nat_equal x y e = if_equal (nat_cmp x y) (x < y) (x ≡ y) (y < x) (ranked x y (nat_cmp x y) refl) e

abbrev LabelBefore : Label → Label → Type 0
LabelBefore a b = (label_kind a < label_kind b) ⊎ ((label_kind a ≡ label_kind b) × (label_call a < label_call b))

label_less : (a b : Label) → label_cmp a b ≡ Less → LabelBefore a b
label_less Thin Thin h = absurd cc
label_less Thin Base h = inl (omega arith)
label_less Thin (Call c) h = inl (omega arith)
label_less Thin (Return c) h = inl (omega arith)
label_less Base Thin h = absurd cc
label_less Base Base h = absurd cc
label_less Base (Call c) h = inl (omega arith)
label_less Base (Return c) h = inl (omega arith)
label_less (Call c) Thin h = absurd cc
label_less (Call c) Base h = absurd cc
label_less (Call c) (Call d) h = inr (refl, nat_less c.0 d.0 h)
label_less (Call c) (Return d) h = inl (omega arith)
label_less (Return c) Thin h = absurd cc
label_less (Return c) Base h = absurd cc
label_less (Return c) (Call d) h = absurd cc
label_less (Return c) (Return d) h = inr (refl, nat_less c.0 d.0 h)

label_equal : (a b : Label) → label_cmp a b ≡ Equal → a ≡ b
label_equal Thin Thin h = refl
label_equal Thin Base h = absurd cc
label_equal Thin (Call c) h = absurd cc
label_equal Thin (Return c) h = absurd cc
label_equal Base Thin h = absurd cc
label_equal Base Base h = refl
label_equal Base (Call c) h = absurd cc
label_equal Base (Return c) h = absurd cc
label_equal (Call c) Thin h = absurd cc
label_equal (Call c) Base h = absurd cc
label_equal (Call c) (Call d) h = ap (λ (n : ℕ). Call (record { 0 = n })) (nat_equal c.0 d.0 h)
label_equal (Call c) (Return d) h = absurd cc
label_equal (Return c) Thin h = absurd cc
label_equal (Return c) Base h = absurd cc
label_equal (Return c) (Call d) h = absurd cc
label_equal (Return c) (Return d) h = ap (λ (n : ℕ). Return (record { 0 = n })) (nat_equal c.0 d.0 h)

node_equal : (a b : NodeId) → a.0 ≡ b.0 → a ≡ b
node_equal a b e = ap (λ (n : ℕ). record { 0 = n }) e

ending_less : (a b : Ending) → ending_cmp a b ≡ Less → EndingBefore a b
ending_less a b h = elim (then_less a.to.0 b.to.0 (ordering_then (nat_cmp a.from.0 b.from.0) (label_cmp a.label b.label)) h) [
  | inl lt ↦ inl lt
  | inr same ↦ inr (node_equal a.to b.to same.0, elim (then_less a.from.0 b.from.0 (label_cmp a.label b.label) same.1) [ inl lt ↦ inl lt | inr from ↦ inr (node_equal a.from b.from from.0, label_less a.label b.label from.1) ])
]

made : (a b : Ending) → a.to ≡ b.to → a.from ≡ b.from → a.label ≡ b.label → a ≡ b
made a b t f l = rw (← t, ← f, ← l) refl

ending_equal : (a b : Ending) → ending_cmp a b ≡ Equal → a ≡ b
ending_equal a b h =
    let to = then_equal a.to.0 b.to.0 (ordering_then (nat_cmp a.from.0 b.from.0) (label_cmp a.label b.label)) h in
    let from = then_equal a.from.0 b.from.0 (label_cmp a.label b.label) to.1 in
    made a b (node_equal a.to b.to to.0) (node_equal a.from b.from from.0) (label_equal a.label b.label from.1)

pub endings_total : IsTotalOrder ending_cmp
endings_total = of_ending.Laws.total-law

pub ending_ties : (a b : Ending) → ending_eq a b ≡ eq_by_cmp ending_cmp a b
ending_ties = of_ending.Laws.matches_eq-law

if_is_eq : (r : Ordering) → is_eq r ≡ true → r ≡ Equal
if_is_eq Less e = absurd cc
if_is_eq Equal e = refl
if_is_eq Greater e = absurd cc

pub same_ending : (a b : Ending) → ending_eq a b ≡ true → a ≡ b
same_ending a b h = ending_equal a b (if_is_eq (ending_cmp a b) (sym (ending_ties a b) ∙ h))

pub ending_equiv : IsEquivalence ending_eq
ending_equiv =
    let e = eq_by_cmp_equiv endings_total in
    record {
      refl = λ x. ending_ties x x ∙ e.refl x;
      symm = λ x y. ending_ties x y ∙ e.symm x y ∙ sym (ending_ties y x);
      congr = λ x y z h. ending_ties x z ∙ e.congr x y z (sym (ending_ties x y) ∙ h) ∙ sym (ending_ties y z);
    }

pub in_pairs : (xs : List Ending) → IsStrictlySortedBy ending_cmp xs → AllPairs EndingBefore xs
unfolding IsStrictlySortedBy
in_pairs [] h = λ i j d lt within. absurd (omega arith)
in_pairs (x ∷ xs) h = AllPairs-cons EndingBefore x xs (All-weaker (λ y. ending_cmp x y ≡ Less) (EndingBefore x) (λ y e. ending_less x y e) xs (All-from_recursion (λ y. ending_cmp x y ≡ Less) xs h.0)) (in_pairs xs h.1)

ends_before : (a b : Ending) → EndingBefore a b → a.to.0 ≤ b.to.0
ends_before a b (inl lt) = omega arith
ends_before a b (inr same) = let e = ap (λ (n : NodeId). n.0) same.0 in omega (arith, e)

-- where edges end does not fall
pub by_ends : (xs : List Ending) → AllPairs EndingBefore xs → IsNonDecreasingBy (λ (x : Ending). x.to.0) xs
by_ends xs order i j d le inside = elim (cases_lt i j) [
  | inl lt ↦ ends_before _ _ (order i j d lt inside)
  | inr ge ↦ let e : i ≡ j = omega arith in omega (arith, ap (λ (k : ℕ). (get_or xs k d).to.0) e)
]
