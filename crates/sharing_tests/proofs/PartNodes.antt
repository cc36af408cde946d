-- The nodes of small programs.
use Rattle.std.proofs.Common.{◌≡◌, ◌≢◌, ◌⊎◌, ◌<◌, ◌≤◌, ◌+◌, ◌-◌, ℕ, zero, suc, Bool, true, false, cond, List, [], ◌∷◌, ◌++◌, length, take, Contains, Option, Some, None, refl, sym, ap, ◌∙◌, subst, inl, inr, arith, eqb, ltb}
use Rattle.std.specs.Prelude.{slice_get, map, ◌&&◌, sum_by}
use Rattle.std.proofs.lemmas.Bool.{cases_lt, false≢true, true≢false, eqb-true, ltb-true}
use Rattle.std.proofs.lemmas.Option.{same_Some, slice_get_within}
use Rattle.std.proofs.lemmas.List.{length-append, length-map}
use Rattle.std.proofs.lemmas.List.Elements.{Contains-append_left, Contains-append_right}
use Rattle.std.proofs.lemmas.List.Sums.{sum_by-cons}
use Rattle.slicer_ids.specs.declared.ids.NodeId.{NodeId}
use Rattle.slicer_ids.specs.declared.ids.MethodId.{MethodId}
use Rattle.dep_form.specs.declared.node.Node.{Node}
use Rattle.dep_form.specs.declared.node.Edge.{Edge}
use Rattle.dep_form.specs.declared.input.MethodInput.{MethodInput}
use Rattle.dep_form.specs.Firsts.{node_count, nodes_in}
use Rattle.dep_form.specs.Inputs.{IsInputOf, IsNodeOf, IsNode, IsEdgeOf, IsEdge}
use Rattle.sharing_tests.specs.OneMethod.{HasParts}
use Rattle.sharing_tests.specs.Parts.{Part, HaveParts, nodes_from, edges_of}

get_map : {A B : Type 0} (f : A → B) (xs : List A) (i : ℕ) (x : A) → slice_get xs i ≡ Some x → slice_get (map f xs) i ≡ Some (f x)
get_map f [] i x e = absurd (omega (arith, slice_get_within [] i x e))
get_map f (y ∷ ys) zero x e = ap (λ z. Some (f z)) (same_Some y x e)
get_map f (y ∷ ys) (suc i) x e = get_map f ys i x e

get_left : {A : Type 0} (xs ys : List A) (i : ℕ) (x : A) → slice_get xs i ≡ Some x → slice_get (xs ++ ys) i ≡ Some x
get_left [] ys i x e = absurd (omega (arith, slice_get_within [] i x e))
get_left (z ∷ zs) ys zero x e = e
get_left (z ∷ zs) ys (suc i) x e = get_left zs ys i x e

get_right : {A : Type 0} (xs ys : List A) (i j : ℕ) (x : A) → j ≡ length xs + i → slice_get ys i ≡ Some x → slice_get (xs ++ ys) j ≡ Some x
get_right [] ys i j x is e = subst (λ (k : ℕ). slice_get ys k ≡ Some x) (omega (arith, is)) e
get_right (z ∷ zs) ys i zero x is e = absurd (omega (arith, is))
get_right (z ∷ zs) ys i (suc j) x is e = get_right zs ys i j x (omega (arith, is)) e

-- an item of a list of images, or of the list behind it
get_either : {A B : Type 0} (f : A → B) (xs : List A) (ys : List B) (j : ℕ) (y : B) → slice_get (map f xs ++ ys) j ≡ Some y → ((x : A) × (slice_get xs j ≡ Some x) × (f x ≡ y)) ⊎ ((i : ℕ) × (j ≡ length xs + i) × (slice_get ys i ≡ Some y))
get_either f [] ys j y e = inr (j, omega arith, e)
get_either f (x ∷ xs) ys zero y e = inl (x, refl, same_Some (f x) y e)
get_either f (x ∷ xs) ys (suc j) y e = elim (get_either f xs ys j y e) [ inl h ↦ inl h | inr h ↦ inr (h.0, omega (arith, h.1), h.2) ]

pub node_in : (m n : ℕ) (ps : List Part) (os : List (Option MethodInput)) → HaveParts m n ps os → (j : ℕ) (i : MethodInput) → slice_get os j ≡ Some (Some i) → (x : NodeId) (k : Node) → IsNodeOf i x k → (n ≤ x.0) × (slice_get (nodes_from m ps) (x.0 - n) ≡ Some (m + j, k))
node_in m n [] [] h j i at x k is = absurd (omega (arith, slice_get_within [] j (Some i) at))
node_in m n [] (o ∷ os) h j i at x k is = absurd h
node_in m n (p ∷ ps) [] h j i at x k is = absurd h
node_in m n (p ∷ ps) (None ∷ os) h j i at x k is = absurd h
node_in m n (p ∷ ps) (Some i' ∷ os) h zero i at x k is =
    let one : i' ≡ i = same_Some i' i (same_Some (Some i') (Some i) at) in
    let first : i.first.0 ≡ n = sym (ap (λ (y : MethodInput). y.first.0) one) ∙ h.0.first_is in
    let nodes : i.nodes ≡ p.0 = sym (ap (λ (y : MethodInput). y.nodes) one) ∙ h.0.nodes_are in
    let here : slice_get p.0 (x.0 - n) ≡ Some k = subst (λ (f : ℕ). slice_get p.0 (x.0 - f) ≡ Some k) first (subst (λ (ks : List Node). slice_get ks (x.0 - i.first.0) ≡ Some k) nodes is.1) in
    let same : m ≡ m + 0 = omega arith in
    (omega (arith, is.0, first), get_left (map (λ (y : Node). (m, y)) p.0) (nodes_from (suc m) ps) (x.0 - n) (m, k) (get_map (λ (y : Node). (m, y)) p.0 (x.0 - n) k here) ∙ ap (λ (y : ℕ). Some (y, k)) same)
node_in m n (p ∷ ps) (Some i' ∷ os) h (suc j) i at x k is =
    let r = node_in (suc m) (n + length p.0) ps os h.1 j i at x k is in
    let same : suc m + j ≡ m + suc j = omega arith in
    (omega (arith, r.0), get_right (map (λ (y : Node). (m, y)) p.0) (nodes_from (suc m) ps) (x.0 - (n + length p.0)) (x.0 - n) (m + suc j, k) (omega (arith, r.0, length-map {B = ℕ × Node} p.0 (λ (y : Node). (m, y)))) (r.1 ∙ ap (λ (y : ℕ). Some (y, k)) same))

pub node_at : (m n : ℕ) (ps : List Part) (os : List (Option MethodInput)) → HaveParts m n ps os → (y : ℕ) (a : ℕ × Node) → slice_get (nodes_from m ps) y ≡ Some a → (j : ℕ) × (i : MethodInput) × (a.0 ≡ m + j) × (slice_get os j ≡ Some (Some i)) × (i.first.0 ≤ n + y) × (slice_get i.nodes (n + y - i.first.0) ≡ Some a.1)
node_at m n [] [] h y a e = absurd (omega (arith, slice_get_within [] y a e))
node_at m n [] (o ∷ os) h y a e = absurd h
node_at m n (p ∷ ps) [] h y a e = absurd h
node_at m n (p ∷ ps) (None ∷ os) h y a e = absurd h
node_at m n (p ∷ ps) (Some i ∷ os) h y a e = elim (get_either (λ (k : Node). (m, k)) p.0 (nodes_from (suc m) ps) y a e) [
  | inl f ↦
      let place : y ≡ n + y - i.first.0 = omega (arith, h.0.first_is) in
      let kind : f.0 ≡ a.1 = ap (λ (z : ℕ × Node). z.1) f.2 in
      (0, i, omega (arith, ap (λ (z : ℕ × Node). z.0) f.2), refl, omega (arith, h.0.first_is), subst (λ (k : ℕ). slice_get i.nodes k ≡ Some a.1) place (subst (λ (ks : List Node). slice_get ks y ≡ Some a.1) (sym h.0.nodes_are) (f.1 ∙ ap (λ (k : Node). Some k) kind)))
  | inr f ↦
      let r = node_at (suc m) (n + length p.0) ps os h.1 f.0 a f.2 in
      let place : n + length p.0 + f.0 ≡ n + y = omega (arith, f.1) in
      (suc r.0, r.1, omega (arith, r.2), r.3, omega (arith, r.4, f.1), subst (λ (k : ℕ). slice_get r.1.nodes (k - r.1.first.0) ≡ Some a.1) place r.5)
]

pub edge_in : (m n : ℕ) (ps : List Part) (os : List (Option MethodInput)) → HaveParts m n ps os → (j : ℕ) (i : MethodInput) → slice_get os j ≡ Some (Some i) → (e : Edge) → IsEdgeOf i e → Contains (edges_of ps) e
edge_in m n [] [] h j i at e is = absurd (omega (arith, slice_get_within [] j (Some i) at))
edge_in m n [] (o ∷ os) h j i at e is = absurd h
edge_in m n (p ∷ ps) [] h j i at e is = absurd h
edge_in m n (p ∷ ps) (None ∷ os) h j i at e is = absurd h
edge_in m n (p ∷ ps) (Some i' ∷ os) h zero i at e is =
    let one : i' ≡ i = same_Some i' i (same_Some (Some i') (Some i) at) in
    Contains-append_left p.1 (edges_of ps) e (direct (subst (λ (y : MethodInput). IsEdgeOf y e) (sym one) is))
  where
    none_in : {X : Type 0} (xs : List X) (x : X) → xs ≡ [] → Contains xs x → ⊥
    none_in {X} xs x no_items c = let k : Contains [] x = subst (λ (ys : List X). Contains ys x) no_items c in omega (arith, k.1)

    direct : IsEdgeOf i' e → Contains p.1 e
    direct (inl c) = subst (λ (es : List Edge). Contains es e) h.0.direct_is c
    direct (inr ((l, inl (a, b, put, get, on)), thin)) = absurd (none_in i'.puts _ h.0.puts_are put)
    direct (inr ((l, inr (inl (b, node, get))), thin)) = absurd (none_in i'.gets _ h.0.gets_are get)
    direct (inr ((l, inr (inr (a, put, node))), thin)) = absurd (none_in i'.puts _ h.0.puts_are put)
edge_in m n (p ∷ ps) (Some i' ∷ os) h (suc j) i at e is = Contains-append_right p.1 (edges_of ps) e (edge_in (suc m) (n + length p.0) ps os h.1 j i at e is)

pub follows : (m n : ℕ) (ps : List Part) (os : List (Option MethodInput)) → HaveParts m n ps os → (j : ℕ) (i : MethodInput) → slice_get os j ≡ Some (Some i) → (i.method.0 ≡ m + j) × (i.first.0 ≡ n + node_count (take j os))
follows m n [] [] h j i at = absurd (omega (arith, slice_get_within [] j (Some i) at))
follows m n [] (o ∷ os) h j i at = absurd h
follows m n (p ∷ ps) [] h j i at = absurd h
follows m n (p ∷ ps) (None ∷ os) h j i at = absurd h
follows m n (p ∷ ps) (Some i' ∷ os) h zero i at =
    let one : i' ≡ i = same_Some i' i (same_Some (Some i') (Some i) at) in
    (omega (arith, sym (ap (λ (y : MethodInput). y.method.0) one) ∙ h.0.method_is), omega (arith, sym (ap (λ (y : MethodInput). y.first.0) one) ∙ h.0.first_is))
follows m n (p ∷ ps) (Some i' ∷ os) h (suc j) i at =
    let r = follows (suc m) (n + length p.0) ps os h.1 j i at in
    (omega (arith, r.0), omega (arith, r.1, sum_by-cons nodes_in (Some i') (take j os), ap length h.0.nodes_are))

pub same_length : (m n : ℕ) (ps : List Part) (os : List (Option MethodInput)) → HaveParts m n ps os → length os ≡ length ps
same_length m n [] [] h = refl
same_length m n [] (o ∷ os) h = absurd h
same_length m n (p ∷ ps) [] h = absurd h
same_length m n (p ∷ ps) (None ∷ os) h = absurd h
same_length m n (p ∷ ps) (Some i ∷ os) h = ap (λ (k : ℕ). suc k) (same_length (suc m) (n + length p.0) ps os h.1)

pub same_count : (m n : ℕ) (ps : List Part) (os : List (Option MethodInput)) → HaveParts m n ps os → node_count os ≡ length (nodes_from m ps)
same_count m n [] [] h = refl
same_count m n [] (o ∷ os) h = absurd h
same_count m n (p ∷ ps) [] h = absurd h
same_count m n (p ∷ ps) (None ∷ os) h = absurd h
same_count m n (p ∷ ps) (Some i ∷ os) h =
    omega (arith, sum_by-cons nodes_in (Some i) os, ap length h.0.nodes_are, same_count (suc m) (n + length p.0) ps os h.1, length-append (map (λ (k : Node). (m, k)) p.0) (nodes_from (suc m) ps), length-map {B = ℕ × Node} p.0 (λ (k : Node). (m, k)))

pub some_input : (m n : ℕ) (ps : List Part) (os : List (Option MethodInput)) → HaveParts m n ps os → (j : ℕ) → j < length ps → (i : MethodInput) × (slice_get os j ≡ Some (Some i))
some_input m n [] [] h j lt = absurd (omega (arith, lt))
some_input m n [] (o ∷ os) h j lt = absurd h
some_input m n (p ∷ ps) [] h j lt = absurd h
some_input m n (p ∷ ps) (None ∷ os) h j lt = absurd h
some_input m n (p ∷ ps) (Some i ∷ os) h zero lt = (i, refl)
some_input m n (p ∷ ps) (Some i ∷ os) h (suc j) lt = some_input (suc m) (n + length p.0) ps os h.1 j (omega (arith, lt))

-- of the whole program: a node stands at its number
module _ (ps : List Part) (os : List (Option MethodInput)) (h : HaveParts 0 0 ps os) where
  pub at_number : (x : NodeId) (m : MethodId) (k : Node) → IsNode os x m k → slice_get (nodes_from 0 ps) x.0 ≡ Some (m.0, k)
  at_number x m k (i, at, is) =
      let r = (node_in 0 0 ps os h m.0 i at x k is).1 in
      let place : x.0 - 0 ≡ x.0 = omega arith in
      let own : 0 + m.0 ≡ m.0 = omega arith in
      subst (λ (y : ℕ). slice_get (nodes_from 0 ps) y ≡ Some (m.0, k)) place (r ∙ ap (λ (y : ℕ). Some (y, k)) own)

  pub of_number : (x : NodeId) (a : ℕ × Node) → slice_get (nodes_from 0 ps) x.0 ≡ Some a → IsNode os x (record { 0 = a.0 }) a.1
  of_number x a e =
      let r = node_at 0 0 ps os h x.0 a e in
      let own : r.0 ≡ a.0 = omega (arith, r.2) in
      let place : 0 + x.0 ≡ x.0 = omega arith in
      (r.1, subst (λ (j : ℕ). slice_get os j ≡ Some (Some r.1)) own r.3, (omega (arith, r.4), subst (λ (y : ℕ). slice_get r.1.nodes (y - r.1.first.0) ≡ Some a.1) place r.5))
