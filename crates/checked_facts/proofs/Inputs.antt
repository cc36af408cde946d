-- What a loop over inputs found so far.
use Rattle.std.proofs.Common.{◌≡◌, ◌⊎◌, ◌<◌, ◌≤◌, ◌+◌, ◌++◌, ℕ, List, Option, Some, length, take, refl, sym, ap, subst, ◌∙◌, inl, inr, arith}
use Rattle.std.specs.Prelude.{Contains, slice_get}
use Rattle.std.proofs.lemmas.Option.{same_Some, slice_get_within}
use Rattle.std.proofs.lemmas.List.{take_all}
use Rattle.std.proofs.lemmas.List.Elements.{Contains-append_left, Contains-append_right}
use Rattle.dep_form.specs.declared.node.Edge.{Edge}
use Rattle.dep_form.specs.declared.input.MethodInput.{MethodInput}
use Rattle.dep_form.specs.Firsts.{node_count, nodes_in}
use Rattle.dep_form.proofs.Firsts.{count_next}
use Rattle.dep_form.specs.WithinFacts.{FollowOn}
use Rattle.checked_facts.specs.Checks.{HasEdges, IsAtPlace, edges_in}
use Rattle.checked_facts.proofs.Ranges.{below_or_at}

-- the inputs before place n follow on
abbrev pub FollowUpTo : List (Option MethodInput) → ℕ → Type 0
FollowUpTo inputs n = (m : ℕ) (i : MethodInput) → m < n → slice_get inputs m ≡ Some (Some i) → (i.method.0 ≡ m) × (i.first.0 ≡ node_count (take m inputs))

-- the list has each edge that an input before place n lists
abbrev pub HasUpTo : List (Option MethodInput) → List Edge → ℕ → Type 0
HasUpTo inputs edges n = (m : ℕ) (i : MethodInput) (e : Edge) → m < n → slice_get inputs m ≡ Some (Some i) → Contains i.direct e → Contains edges e

module _ (inputs : List (Option MethodInput)) (o : Option MethodInput) (n : ℕ) (at : slice_get inputs n ≡ Some o) where
  is_there : (m : ℕ) (i : MethodInput) → m ≡ n → slice_get inputs m ≡ Some (Some i) → o ≡ Some i
  is_there m i same get = same_Some o (Some i) (sym at ∙ subst (λ k. slice_get inputs k ≡ Some (Some i)) same get)

  pub follow_more : (next : ℕ) → IsAtPlace o n next → next ≡ node_count (take n inputs) → FollowUpTo inputs n → FollowUpTo inputs (n + 1)
  follow_more next is count before m i lt get = elim (below_or_at m n lt) [
    | inl below ↦ before m i below get
    | inr same ↦
        let here = subst (λ x. IsAtPlace x n next) (is_there m i same get) is in
        (here.0 ∙ sym same, here.1 ∙ count ∙ ap (λ k. node_count (take k inputs)) (sym same))
  ]

  pub next_count : (next new : ℕ) → new ≡ next + nodes_in o → next ≡ node_count (take n inputs) → new ≡ node_count (take (n + 1) inputs)
  next_count next new sum count = omega (arith, sum, count, count_next inputs n o at)

  pub has_more : (edges new : List Edge) → new ≡ edges ++ edges_in o → HasUpTo inputs edges n → HasUpTo inputs new (n + 1)
  has_more edges new is before m i e lt get there = subst (λ es. Contains es e) (sym is) (elim (below_or_at m n lt) [
    | inl below ↦ Contains-append_left edges (edges_in o) e (before m i e below get there)
    | inr same ↦ Contains-append_right edges (edges_in o) e (subst (λ x. Contains (edges_in x) e) (sym (is_there m i same get)) there)
  ])

module _ (inputs : List (Option MethodInput)) (n : ℕ) (le : length inputs ≤ n) where
  pub follow_all : FollowUpTo inputs n → FollowOn inputs
  follow_all all m i get = let within = slice_get_within inputs m (Some i) get in all m i (omega arith) get

  pub count_all : (next : ℕ) → next ≡ node_count (take n inputs) → next ≡ node_count inputs
  count_all next count = count ∙ ap node_count (take_all n inputs le)

  pub has_all : (edges : List Edge) → HasUpTo inputs edges n → HasEdges inputs edges
  has_all edges all m i e get = let within = slice_get_within inputs m (Some i) get in all m i e (omega arith) get
