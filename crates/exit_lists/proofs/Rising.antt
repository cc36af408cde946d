-- Exits in order, as they are added.
use Rattle.std.proofs.Common.{◌≡◌, ◌<◌, ◌≤◌, ◌+◌, ◌-◌, [], ℕ, true, List, Option, Some, None, length, get_or, take, Contains, inl, inr, refl, sym, ap, subst, ◌∙◌, arith}
use Rattle.std.specs.Prelude.{slice_get}
use Rattle.std.proofs.lemmas.Option.{same_Some, slice_get_within}
use Rattle.std.proofs.lemmas.List.{get_or_default}
use Rattle.slicer_ids.specs.Sets.{IsOrderedListOf}
use Rattle.slicer_ids.specs.declared.ids.MethodId.{MethodId}
use Rattle.slicer_ids.specs.declared.ids.NodeId.{NodeId}
use Rattle.dep_form.specs.Firsts.{node_count}
use Rattle.dep_form.specs.Inputs.{IsExitNode}
use Rattle.dep_form.specs.Nodes.{is_exit}
use Rattle.dep_form.specs.WithinFacts.{FollowOn, NodeBefore}
use Rattle.dep_form.specs.declared.input.MethodInput.{MethodInput}
use Rattle.dep_form.specs.declared.node.Node.{Node}
use Rattle.worklists.specs.Growth.{Grows}
use Rattle.worklists.proofs.Growing.{FromBelow}
use Rattle.exit_lists.specs.Exits.{IsExitIn, IsExitOf, IsExitPlace, IsRising, numbered}

pub rising_more : (b c : ℕ) (xs : List NodeId) → b ≤ c → IsRising b xs → IsRising c xs
rising_more b c xs le r = record { order = r.order; below = λ k d lt. let h : (get_or xs k d).0 < b = r.below k d lt in omega (arith, h, le) }

pub rising_none : (b : ℕ) (xs : List NodeId) → xs ≡ [] → IsRising b xs
rising_none b xs nil = subst (IsRising b) (sym nil) (record { order = λ i j d lt within. absurd (omega (arith, within)); below = λ k d lt. absurd (omega (arith, lt)) })

-- ---- the exit at a place
pub place_is : (first : ℕ) (nodes : List Node) (k : ℕ) (node : Node) → slice_get nodes k ≡ Some node → (x : NodeId) → (is_exit node ≡ true) × (x ≡ numbered (first + k)) → IsExitPlace first nodes k x
place_is first nodes k node at x (is, e) = ((node, at, is), e)

pub is_place : (first : ℕ) (nodes : List Node) (k : ℕ) (node : Node) → slice_get nodes k ≡ Some node → (x : NodeId) → IsExitPlace first nodes k x → (is_exit node ≡ true) × (x ≡ numbered (first + k))
is_place first nodes k node at x ((other, there, is), e) = (ap is_exit (same_Some node other (sym at ∙ there)) ∙ is, e)

-- ---- the exits of an input
pub some_exits : (o : Option MethodInput) (i : MethodInput) → o ≡ Some i → (x : NodeId) → IsExitIn o x → FromBelow (IsExitPlace i.first.0 i.nodes) (length i.nodes) x
some_exits o i e x (j, f, h) = subst (λ (z : MethodInput). FromBelow (IsExitPlace z.first.0 z.nodes) (length z.nodes) x) (same_Some j i (sym f ∙ e)) h

pub no_exits : (o : Option MethodInput) → o ≡ None → (x : NodeId) → IsExitIn o x → ⊥
no_exits o e x (j, f, h) = cc (sym e ∙ f)

pub method_exits : (inputs : List (Option MethodInput)) (m : ℕ) (o : Option MethodInput) → slice_get inputs m ≡ Some o → (x : NodeId) → IsExitOf inputs m x → IsExitIn o x
method_exits inputs m o at x (q, there, h) = subst (λ (z : Option MethodInput). IsExitIn z x) (same_Some q o (sym there ∙ at)) h

-- ---- its first node
pub first_is : (inputs : List (Option MethodInput)) (m : ℕ) (o : Option MethodInput) → FollowOn inputs → slice_get inputs m ≡ Some o → (i : MethodInput) → o ≡ Some i → i.first.0 ≡ node_count (take m inputs)
first_is inputs m o follow at i e = (follow m i (at ∙ ap (λ (z : Option MethodInput). Some z) e)).1

-- ---- all exits
module _ (inputs : List (Option MethodInput)) (count : ℕ) (all : count ≡ length inputs - 1) (n : NodeId) where
  pub to_exit : FromBelow (IsExitOf inputs) count n → (m : MethodId) × IsExitNode inputs n m
  to_exit (j, lt, (o, at, (i, e, (k, within, ((node, there, is), x))))) =
      let number : n.0 ≡ i.first.0 + k = ap (λ (z : NodeId). z.0) x in
      let place : k ≡ n.0 - i.first.0 = omega (arith, number) in
      (record { 0 = j }, (node, (i, subst (λ (z : Option MethodInput). slice_get inputs j ≡ Some z) e at, (omega (arith, number), subst (λ (q : ℕ). slice_get i.nodes q ≡ Some node) place there)), is, omega (arith, lt, all)))

  pub from_exit : (m : MethodId) × IsExitNode inputs n m → FromBelow (IsExitOf inputs) count n
  from_exit (m, (node, (i, at, (le, there)), is, lt)) =
      let number : n.0 ≡ i.first.0 + (n.0 - i.first.0) = omega (arith, le) in
      (m.0, omega (arith, lt, all), (Some i, at, (i, refl, (n.0 - i.first.0, slice_get_within i.nodes (n.0 - i.first.0) node there, ((node, there, is), ap (λ (z : ℕ). numbered z) number)))))

-- ---- as a list in order
pub listed : (xs start : List NodeId) (bound : ℕ) (P : NodeId → Type 0) → start ≡ [] → IsRising bound xs → Grows start xs P → IsOrderedListOf NodeBefore xs P
listed xs start bound P nil r g = record {
  each = λ k d lt. elim (g.only (get_or xs k d) (k, lt, get_or_default xs k (get_or xs k d) d lt)) [
    | inl o ↦ absurd (none (get_or xs k d) o)
    | inr p ↦ p
  ];
  order = r.order;
  whole = λ x p. g.all x p;
}
  where
    none : (x : NodeId) → Contains start x → ⊥
    none x c = omega (arith, c.1, ap (λ (ys : List NodeId). length ys) nil)
