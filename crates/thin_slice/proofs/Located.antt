-- A node is of one method, and an exit of one number.
use Rattle.std.proofs.Common.{◌≡◌, ◌<◌, ◌≤◌, ◌+◌, ℕ, zero, suc, List, length, take, get_or, Option, Some, None, sym, ap, subst, ◌∙◌, inl, inr, arith}
use Rattle.std.specs.Prelude.{slice_get}
use Rattle.std.specs.declared.cmp.Ordering.TheVariants.{Less, Equal}
use Rattle.std.proofs.lemmas.Bool.{cases_lt}
use Rattle.std.proofs.lemmas.List.{take_all}
use Rattle.std.proofs.lemmas.Option.{slice_get_cases, slice_get_within, get_or_from_slice_get}
use Rattle.std.proofs.lemmas.Cmp.{tied_itself}
use Rattle.slicer_ids.specs.declared.ids.NodeId.{NodeId}
use Rattle.slicer_ids.specs.declared.ids.MethodId.{MethodId}
use Rattle.slicer_ids.specs.declared.ids.ExitId.{ExitId}
use Rattle.dep_form.specs.declared.input.MethodInput.{MethodInput}
use Rattle.dep_form.specs.declared.node.Node.{Node}
use Rattle.dep_form.specs.declared.facts.Facts.{Facts}
use Rattle.dep_form.specs.Firsts.{node_count}
use Rattle.dep_form.specs.Graphs.{HasInput}
use Rattle.dep_form.specs.Inputs.{IsNode, IsInputOf}
use Rattle.dep_form.specs.LookUps.{IsMethodOfNode, IsSomeNode}
use Rattle.dep_form.specs.Orders.{node_cmp}
use Rattle.dep_form.specs.Summaries.{IsExitAt}
use Rattle.dep_form.proofs.Firsts.{count_next, count_rises}
use Rattle.dep_form.proofs.OneMethod.{one_place, is_within}
use Rattle.dep_form.proofs.Searching.{node_total}

-- the input at a place has the nodes counted there
at_place : (f : Facts) (n : NodeId) (k : ℕ) (o : Option MethodInput) → slice_get f.inputs k ≡ Some o → node_count (take k f.inputs) ≤ n.0 → n.0 < node_count (take (k + 1) f.inputs) → IsSomeNode f.inputs n
at_place f n k None at low high = absurd (omega (arith, low, high, count_next f.inputs k None at))
at_place f n k (Some i) at low high =
    let first = (f.follow_on k i at).1 in
    (record { 0 = k }, (Some i, at, (omega (arith, low, first), omega (arith, high, first, count_next f.inputs k (Some i) at))))

find : (f : Facts) (n : NodeId) (k : ℕ) → n.0 < node_count (take k f.inputs) → IsSomeNode f.inputs n
find f n zero lt = absurd (omega (arith, lt))
find f n (suc k) lt =
    let e : suc k ≡ k + 1 = omega arith in
    let lt' : n.0 < node_count (take (k + 1) f.inputs) = subst (λ j. n.0 < node_count (take j f.inputs)) e lt in
    elim (cases_lt n.0 (node_count (take k f.inputs))) [
      | inl low ↦ find f n k low
      | inr ge ↦ elim (slice_get_cases f.inputs k).1 [
        | inl c ↦ at_place f n k c.0 c.2 ge lt'
        | inr c ↦ absurd (omega (arith, lt', ge, ap node_count (take_all k f.inputs c.0), ap node_count (take_all (k + 1) f.inputs (omega (arith, c.0)))))
      ]
    ]

-- a number below the count is that of a node
pub some_node : (f : Facts) (n : NodeId) → n.0 < node_count f.inputs → IsSomeNode f.inputs n
some_node f n lt = find f n (length f.inputs) (omega (arith, lt, ap node_count (take_all (length f.inputs) f.inputs (omega arith))))

-- the nodes of a method are among those counted
pub input_end : (f : Facts) (m : MethodId) (i : MethodInput) → IsInputOf f.inputs m i → i.first.0 + length i.nodes ≤ node_count f.inputs
input_end f m i at =
    let inside = slice_get_within f.inputs m.0 (Some i) at in
    omega (arith, (f.follow_on m.0 i at).1, count_next f.inputs m.0 (Some i) at, count_rises f.inputs (m.0 + 1) (length f.inputs) (omega (arith, inside)), ap node_count (take_all (length f.inputs) f.inputs (omega arith)))

-- .. so that their numbers are below the count
pub within_count : (f : Facts) (n k : ℕ) (i : MethodInput) → slice_get f.inputs k ≡ Some (Some i) → n < i.first.0 + length i.nodes → n < node_count f.inputs
within_count f n k i at lt = omega (arith, lt, input_end f (record { 0 = k }) i at)

pub node_below : (f : Facts) (n : NodeId) (m : MethodId) (k : Node) → IsNode f.inputs n m k → n.0 < node_count f.inputs
node_below f n m k p = within_count f n.0 m.0 p.0 p.1 (is_within p.0 n k p.2)

-- a node with a method is of an input there
pub input_there : (inputs : List (Option MethodInput)) (n : NodeId) (m : MethodId) → IsMethodOfNode inputs n m → (i : MethodInput) × IsInputOf inputs m i × (i.first.0 ≤ n.0) × (n.0 < i.first.0 + length i.nodes)
input_there inputs n m (None, at, has) = absurd has
input_there inputs n m (Some i, at, has) = (i, at, has.0, has.1)

pub has_input : (inputs : List (Option MethodInput)) (n : NodeId) (m : MethodId) → IsMethodOfNode inputs n m → HasInput inputs m
has_input inputs n m h = let r = input_there inputs n m h in (r.0, r.1)

pub one_method : (f : Facts) (n : NodeId) (a b : MethodId) → IsMethodOfNode f.inputs n a → IsMethodOfNode f.inputs n b → a ≡ b
one_method f n a b h k =
    let x = input_there f.inputs n a h in
    let y = input_there f.inputs n b k in
    ap (λ m. record { 0 = m }) (one_place f n.0 a.0 b.0 x.0 y.0 x.1 y.1 x.2 x.3 y.2 y.3)

-- exits with one node are one
not_before : (f : Facts) (n : NodeId) (a b : ExitId) → IsExitAt f a n → IsExitAt f b n → a.0 < b.0 → ⊥
not_before f n a b h k lt =
    let less = f.exits_rise a.0 b.0 n lt (slice_get_within f.exits b.0 n k) in
    let same = tied_itself node_total n in
    let both : node_cmp n n ≡ Less = subst (λ y. node_cmp n y ≡ Less) (get_or_from_slice_get f.exits b.0 n n k) (subst (λ x. node_cmp x (get_or f.exits b.0 n) ≡ Less) (get_or_from_slice_get f.exits a.0 n n h) less) in
    let clash : Less ≡ Equal = sym both ∙ same in
    absurd (cc clash)

pub one_exit : (f : Facts) (n : NodeId) (a b : ExitId) → IsExitAt f a n → IsExitAt f b n → a ≡ b
one_exit f n a b h k = ap (λ m. record { 0 = m }) (elim (cases_lt a.0 b.0) [
  | inl lt ↦ absurd (not_before f n a b h k lt)
  | inr ge ↦ elim (cases_lt b.0 a.0) [ inl lt ↦ absurd (not_before f n b a k h lt) | inr le ↦ omega (arith, ge, le) ]
])
