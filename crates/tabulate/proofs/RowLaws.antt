-- The rows of a table, as they are read off.
use Rattle.std.proofs.Common.{◌≡◌, ◌⊎◌, ℕ, ◌+◌, ◌-◌, ◌*◌, ◌/◌, ◌%◌, ◌^◌, ◌<◌, ◌≤◌, Bool, true, List, [], ◌∷◌, ◌++◌, length, get_or, Some, inl, inr, sym, subst, ap, ◌∙◌, bit_or, arith}
use Rattle.std.specs.Prelude.{◌↔◌, IsTrue, slice_index}
use Rattle.std.specs.Int.{bit_at, w64}
use Rattle.std.proofs.lemmas.Bool.{cases_eq}
use Rattle.std.proofs.lemmas.Nat.Bits.{bit_at_set_same, bit_at_set_other, bit_at-zero}
use Rattle.std.proofs.lemmas.List.{get_or_push, get_or_append_left}
use Rattle.std.proofs.lemmas.List.Sums.{count_by-le-length}
use Rattle.std.proofs.lemmas.Option.{same_Some, slice_get_within, slice_get-get_or}
use Rattle.slicer_ids.specs.declared.ids.NodeId.{NodeId}
use Rattle.slicer_ids.specs.declared.ids.MethodId.{MethodId}
use Rattle.slicer_ids.specs.declared.ids.ExitId.{ExitId}
use Rattle.dep_form.specs.declared.facts.Facts.{Facts}
use Rattle.dep_form.specs.declared.input.MethodInput.{MethodInput}
use Rattle.dep_form.specs.declared.node.Node.{Node}
use Rattle.dep_form.specs.declared.node.Node.TheVariants.{Return as ReturnNode}
use Rattle.dep_form.specs.Nodes.{is_formal}
use Rattle.dep_form.specs.Inputs.{IsNodeOf, formal_count}
use Rattle.dep_form.specs.LookUps.{HasFormals}
use Rattle.dep_form.specs.Summaries.{IsExitAt}
use Rattle.tabulate.specs.declared.found.Found.{Found}
use Rattle.tabulate.specs.declared.method.Method.{Method}
use Rattle.tabulate.specs.Frames.{node, count, first, size, number_of, IsOf}
use Rattle.tabulate.specs.Methods.{IsMethodOf}
use Rattle.tabulate.specs.States.{IsWordFound, IsRowFound}
use Rattle.tabulate.proofs.Placing.{placed, size_at, of_input, count_within}
use Rattle.tabulate.proofs.HandRows.{one_input}

pub set_bit : (bits k : ℕ) (set : Bool) → k < 64 → set ≡ true → (b : ℕ) → (bit_at (bit_or bits (1 * 2 ^ k % 2 ^ 64)) b ≡ 1) ↔ ((bit_at bits b ≡ 1) ⊎ ((b ≡ k) × (set ≡ true)))
set_bit bits k set lt is b = elim (cases_eq b k) [
  | inl e ↦ let one : bit_at (bit_or bits (1 * 2 ^ k % 2 ^ 64)) b ≡ 1 = ap (λ j. bit_at (bit_or bits (1 * 2 ^ k % 2 ^ 64)) j) e ∙ bit_at_set_same w64 bits k lt in (λ h. inr (e, is), λ h. one)
  | inr ne ↦ let same : bit_at (bit_or bits (1 * 2 ^ k % 2 ^ 64)) b ≡ bit_at bits b = bit_at_set_other w64 bits k lt b ne in (λ h. inl (sym same ∙ h), λ h. elim h [ inl o ↦ same ∙ o | inr n ↦ absurd (ne n.0) ])
]

-- no bit yet
pub word_start : (P : ℕ → Type 0) (b : ℕ) → (bit_at 0 b ≡ 1) ↔ ((b < 0) × P b)
word_start P b = (λ h. absurd (omega (arith, h, bit_at-zero b)), λ h. absurd (omega (arith, h.0)))

-- one bit more
pub word_more : (P : ℕ → Type 0) (bits bits' k : ℕ) (set : Bool) → ((b : ℕ) → (bit_at bits b ≡ 1) ↔ ((b < k) × P b)) → ((b : ℕ) → (bit_at bits' b ≡ 1) ↔ ((bit_at bits b ≡ 1) ⊎ ((b ≡ k) × (set ≡ true)))) → IsTrue set ↔ P k
    → (b : ℕ) → (bit_at bits' b ≡ 1) ↔ ((b < k + 1) × P b)
word_more P bits bits' k set old new is b = (to, from)
  where
    to : bit_at bits' b ≡ 1 → (b < k + 1) × P b
    to h = elim ((new b).0 h) [ inl o ↦ let x = (old b).0 o in (omega (arith, x.0), x.1) | inr n ↦ (omega (arith, n.0), subst P (sym n.0) (is.0 n.1)) ]

    from : (b < k + 1) × P b → bit_at bits' b ≡ 1
    from x = elim (cases_eq b k) [ inl e ↦ (new b).1 (inr (e, is.1 (subst P e x.1))) | inr ne ↦ (new b).1 (inl ((old b).1 (omega (arith, x.0, ne), x.1))) ]

module _ (p : Facts) where
  pub formals_few : (m : MethodId) (formals : ℕ) → HasFormals p m formals → formals ≤ 16777216
  formals_few m formals (i, at, is) =
      let few : count p ≤ 2 ^ 24 = p.few in
      omega (arith, is, count_by-le-length is_formal i.nodes, size_at p m.0 (Some i) at, count_within p m.0 (slice_get_within p.inputs m.0 (Some i) at), few)

  -- the formals are nodes of their method
  pub formal_node : (y : Method) (formals j : ℕ) → IsMethodOf p y → HasFormals p y.id formals → j < formals → IsOf p (y.first.0 + j) y.id.0
  formal_node y formals j is (i, at, e) lt =
      let start : i.first.0 ≡ first p y.id.0 = (p.follow_on y.id.0 i at).1 in
      of_input p (node (y.first.0 + j)) y.id.0 i at (omega (arith, start, is.first_is)) (omega (arith, start, is.first_is, lt, e, count_by-le-length is_formal i.nodes))

  module _ (ts : List Found) (d : ExitId) (x : NodeId) (at : IsExitAt p d x) (y : Method) (is : IsMethodOf p y) (own : IsOf p x.0 y.id.0) (formals number : ℕ) (has : HasFormals p y.id formals) (number_is : number ≡ number_of p x.0)
      (bits : List ℕ) (len : length bits ≡ (formals + 63) / 64) (words : (k : ℕ) → k < length bits → IsWordFound p ts y.first.0 formals number k (get_or bits k 0)) where
    abbrev kind : Node
    kind = get_or has.0.nodes (x.0 - has.0.first.0) ReturnNode

    start : has.0.first.0 ≡ first p y.id.0
    start = (p.follow_on y.id.0 has.0 has.1).1

    here : IsNodeOf has.0 x kind
    here =
        let h = placed p x.0 own.0 in
        (omega (arith, h.above, start, ap (first p) own.1), slice_get-get_or has.0.nodes (x.0 - has.0.first.0) ReturnNode (omega (arith, h.above, h.below, start, size_at p y.id.0 (Some has.0) has.1, ap (first p) own.1, ap (size p) own.1)))

    pub row_found : IsRowFound p ts d bits
    row_found = record {
      size = (y.id, has.0, x, kind, at, has.1, here, omega (arith, len, has.2));
      words = λ m i z k j az input there lt b low.
          let one : z ≡ x = same_Some z x (sym az ∙ at) in
          let same : i ≡ has.0 = one_input p x m y.id i has.0 k input (subst (λ (n : NodeId). IsNodeOf i n k) one there) has.1 own.1 in
          let first_is : y.first.0 ≡ i.first.0 = omega (arith, is.first_is, start, ap (λ (n : MethodInput). n.first.0) same) in
          let all : formals ≡ formal_count i = has.2 ∙ sym (ap formal_count same) in
          let number_there : number ≡ number_of p z.0 = number_is ∙ sym (ap (λ (n : NodeId). number_of p n.0) one) in
          subst (λ (f : ℕ). IsWordFound p ts f (formal_count i) (number_of p z.0) j (slice_index bits j)) first_is
          (subst (λ (n : ℕ). IsWordFound p ts y.first.0 n (number_of p z.0) j (slice_index bits j)) all
          (subst (λ (n : ℕ). IsWordFound p ts y.first.0 formals n j (slice_index bits j)) number_there (words j lt))) b low;
    }

-- one word more
pub words_more : (P : ℕ → ℕ → Type 0) (row row' : List ℕ) (word n : ℕ) → length row ≡ n → row' ≡ row ++ word ∷ [] → ((k : ℕ) → k < n → P k (get_or row k 0)) → P n word → (k : ℕ) → k < n + 1 → P k (get_or row' k 0)
words_more P row row' word n len grown old new k lt = subst (λ (ys : List ℕ). P k (get_or ys k 0)) (sym grown) (elim (cases_eq k n) [
  | inl e ↦ subst (λ (j : ℕ). P j (get_or (row ++ word ∷ []) j 0)) (sym e) (subst (P n) (sym (get_or_push row word 0 n len)) new)
  | inr ne ↦ subst (P k) (sym (get_or_append_left row (word ∷ []) 0 k (omega (arith, lt, ne, len)))) (old k (omega (arith, lt, ne)))
])
