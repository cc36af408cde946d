-- The facts of one method that hands on its argument are facts.
use Rattle.std.proofs.Common.{◌≡◌, ◌⊎◌, ◌<◌, ◌≤◌, ◌-◌, ◌+◌, ℕ, zero, suc, List, [], ◌∷◌, length, Option, Some, None, refl, sym, ap, ◌∙◌, subst, inl, inr, arith, true, false, true≢false}
use Rattle.std.specs.Prelude.{Contains, slice_get, All, Bool, take}
use Rattle.std.proofs.lemmas.List.Sums.{sum_by-cons}
use Rattle.dep_form.specs.Firsts.{node_count, nodes_in}
use Rattle.std.proofs.lemmas.Option.{same_Some, none-some}
use Rattle.slicer_ids.specs.declared.ids.NodeId.{NodeId}
use Rattle.slicer_ids.specs.declared.ids.MethodId.{MethodId}
use Rattle.slicer_ids.specs.declared.ids.CallId.{CallId}
use Rattle.dep_form.specs.declared.node.Node.{Node}
use Rattle.dep_form.specs.declared.node.Node.TheVariants.{Formal, Return}
use Rattle.dep_form.specs.declared.node.Edge.{Edge}
use Rattle.dep_form.specs.declared.node.Label.{Label}
use Rattle.dep_form.specs.declared.node.Label.TheVariants.{Thin, Call, Return as Back}
use Rattle.dep_form.specs.declared.texts.MethodText.{MethodText}
use Rattle.dep_form.specs.declared.input.MethodInput.{MethodInput}
use Rattle.dep_form.specs.Nodes.{is_exit}
use Rattle.dep_form.specs.Inputs.{IsInputOf, IsNodeOf, IsNode, IsEdgeOf, IsEdge, IsExitNode}
use Rattle.dep_form.specs.WithinFacts.{AreFacts, IsFit, IsCallerEnd, NodeBefore}
use Rattle.sharing_tests.specs.OneMethod.{HandsOn, IsEmptyRoot, flow_through}

pub two_inputs : (i r : MethodInput) (k : ℕ) (j : MethodInput) → slice_get (Some i ∷ Some r ∷ []) k ≡ Some (Some j) → ((k ≡ 0) × (i ≡ j)) ⊎ ((k ≡ 1) × (r ≡ j))
two_inputs i r zero j at = inl (refl, same_Some i j (same_Some (Some i) (Some j) at))
two_inputs i r (suc zero) j at = inr (refl, same_Some r j (same_Some (Some r) (Some j) at))
two_inputs i r (suc (suc k)) j at = absurd (none-some (Some j) at)

two_nodes : (m : ℕ) (k : Node) → slice_get (Formal 0 ∷ Return ∷ []) m ≡ Some k → ((m ≡ 0) × (Formal 0 ≡ k)) ⊎ ((m ≡ 1) × (Return ≡ k))
two_nodes zero k at = inl (refl, same_Some (Formal 0) k at)
two_nodes (suc zero) k at = inr (refl, same_Some Return k at)
two_nodes (suc (suc m)) k at = absurd (none-some k at)

pub node_is : (i : MethodInput) (n : NodeId) (k : Node) → HandsOn i → IsNodeOf i n k → ((n.0 ≡ 0) × (Formal 0 ≡ k)) ⊎ ((n.0 ≡ 1) × (Return ≡ k))
node_is i n k h p =
    let place : n.0 - i.first.0 ≡ n.0 = omega (arith, h.first_is) in
    two_nodes n.0 k (subst (λ (z : ℕ × List Node). slice_get z.1 z.0 ≡ Some k) (λ t. (place t, h.nodes_are t)) p.1)

pub first_node : (i : MethodInput) → HandsOn i → IsNodeOf i (record { 0 = 0 }) (Formal 0)
first_node i h = (omega (arith, h.first_is), subst (λ (z : ℕ × List Node). slice_get z.1 (0 - z.0) ≡ Some (Formal 0)) (λ t. (sym h.first_is t, sym h.nodes_are t)) refl)

pub second_node : (i : MethodInput) → HandsOn i → IsNodeOf i (record { 0 = 1 }) Return
second_node i h = (omega (arith, h.first_is), subst (λ (z : ℕ × List Node). slice_get z.1 (1 - z.0) ≡ Some Return) (λ t. (sym h.first_is t, sym h.nodes_are t)) refl)

abbrev is_thin : Label → Bool
is_thin Thin = true
is_thin x = false

-- a fact of the one item of a list
all_one : {X : Type 0} (P : X → Type 0) (x : X) → P x → All P (x ∷ [])
all_one P x p zero d lt = p
all_one P x p (suc k) d lt = absurd (omega (arith, lt))

none_in : {X : Type 0} (x : X) → Contains [] x → ⊥
none_in x c = omega (arith, c.1)

only_one : {X : Type 0} (x y : X) → Contains (x ∷ []) y → x ≡ y
only_one x y (zero, lt, e) = e
only_one x y (suc k, lt, e) = absurd (omega (arith, lt))

none_among : {X : Type 0} (xs : List X) (x : X) → xs ≡ [] → Contains xs x → ⊥
none_among xs x e c = none_in x (subst (λ ys. Contains ys x) e c)

pub edge_is : (i : MethodInput) (e : Edge) → HandsOn i → IsEdgeOf i e → flow_through ≡ e
edge_is i e h (inl c) = only_one flow_through e (subst (λ es. Contains es e) h.direct_is c)
edge_is i e h (inr ((l, inl (p, q, put, get, on)), thin)) = absurd (none_among i.puts _ h.puts_are put)
edge_is i e h (inr ((l, inr (inl (q, node, get))), thin)) = absurd (none_among i.gets _ h.gets_are get)
edge_is i e h (inr ((l, inr (inr (p, put, node))), thin)) = absurd (none_among i.puts _ h.puts_are put)

no_edge : (r : MethodInput) (e : Edge) → IsEmptyRoot r → IsEdgeOf r e → ⊥
no_edge r e h (inl c) = none_among r.direct e h.direct_is c
no_edge r e h (inr ((l, inl (p, q, put, get, on)), thin)) = none_among r.puts _ h.puts_are put
no_edge r e h (inr ((l, inr (inl (q, node, get))), thin)) = none_among r.gets _ h.gets_are get
no_edge r e h (inr ((l, inr (inr (p, put, node))), thin)) = none_among r.puts _ h.puts_are put

module _ (i r : MethodInput) (h : HandsOn i) (g : IsEmptyRoot r) where
  pub every_edge : (e : Edge) → IsEdge (Some i ∷ Some r ∷ []) e → flow_through ≡ e
  every_edge e (m, j, at, is) = elim (two_inputs i r m.0 j at) [
    | inl first ↦ edge_is i e h (subst (λ k. IsEdgeOf k e) (sym first.1) is)
    | inr last ↦ absurd (no_edge r e g (subst (λ k. IsEdgeOf k e) (sym last.1) is))
  ]

  no_call : (e : Edge) (c : CallId) (a : NodeId) → flow_through ≡ e → IsCallerEnd e c a → ⊥
  no_call e c a same (inl call) = let l : Thin ≡ Call c = ap (λ (x : Edge). x.label) same ∙ call.0 in true≢false (sym (ap is_thin (sym l)))
  no_call e c a same (inr back) = let l : Thin ≡ Back c = ap (λ (x : Edge). x.label) same ∙ back.0 in true≢false (sym (ap is_thin (sym l)))

  exit_is : (x : NodeId) (m : MethodId) → IsExitNode (Some i ∷ Some r ∷ []) x m → x.0 ≡ 1
  exit_is x m (k, (j, at, node), exit, lt) = elim (two_inputs i r m.0 j at) [
    | inl first ↦ elim (node_is i x k h (subst (λ z. IsNodeOf z x k) (sym first.1) node)) [
      | inl formal ↦ absurd (true≢false (sym exit ∙ ap is_exit (sym formal.1)))
      | inr back ↦ back.0
    ]
    | inr last ↦ absurd (omega (arith, last.0, lt))
  ]

  pub are_facts : (name : List ℕ) (text : MethodText) → text.class.0 ≡ 0 → AreFacts (Some i ∷ Some r ∷ []) ((record { 0 = 1 }) ∷ []) (name ∷ []) (text ∷ []) [] [] [] []
  are_facts name text class = record {
    root = refl;
    with_root = (r, refl);
    follow_on = λ m j at. elim (two_inputs i r m j at) [
      | inl first ↦ subst (λ (z : ℕ × MethodInput). (z.1.method.0 ≡ z.0) × (z.1.first.0 ≡ node_count (take z.0 (Some i ∷ Some r ∷ [])))) (λ t. (sym first.0 t, first.1 t)) (h.method_is, h.first_is)
      | inr last ↦ subst (λ (z : ℕ × MethodInput). (z.1.method.0 ≡ z.0) × (z.1.first.0 ≡ node_count (take z.0 (Some i ∷ Some r ∷ [])))) (λ t. (sym last.0 t, last.1 t))
          (g.method_is, g.first_is ∙ sym (sum_by-cons nodes_in (Some i) [] ∙ ap (λ ns. length ns + 0) h.nodes_are))
    ];
    few = omega (arith, sum_by-cons nodes_in (Some i) (Some r ∷ []), sum_by-cons nodes_in (Some r) [], ap length h.nodes_are, ap length g.nodes_are);
    few_methods = omega arith;
    few_exits = omega arith;
    few_classes = omega arith;
    all_exits = record {
      each = all_one (λ (n : NodeId). (m : MethodId) × IsExitNode (Some i ∷ Some r ∷ []) n m) (record { 0 = 1 }) (record { 0 = 0 }, (Return, (i, refl, second_node i h), refl, omega arith));
      order = λ k l d lt within. absurd (omega arith);
      whole = λ x is. (0, omega arith, ap (λ n. record { 0 = n }) (sym (exit_is x is.0 is.1)));
    };
    fit = λ e is. subst (λ (x : Edge). IsFit (Some i ∷ Some r ∷ []) [] x x.label) (every_edge e is)
        (record { 0 = 0 }, Formal 0, Return, (i, refl, first_node i h), (i, refl, second_node i h));
    one_caller = λ c e f a b is_e is_f end_e end_f. absurd (no_call e c a (every_edge e is_e) end_e);
    classes_rise = λ k l d lt within. absurd (omega arith);
    methods_rise = λ k l d lt within. absurd (omega arith);
    lines_rise = λ k l d lt within. absurd (omega arith);
    accesses_rise = λ k l d lt within. absurd (omega arith);
    values_rise = λ k l d lt within. absurd (omega arith);
    method_classes = all_one (λ (t : MethodText). t.class.0 < 1) text (omega (arith, class));
    site_places = λ k d lt. absurd (omega arith);
    line_classes = λ k d lt. absurd (omega arith);
    line_statements = λ k d lt. absurd (omega arith);
    access_places = λ k d lt. absurd (omega arith);
    access_nodes = λ k d lt. absurd (omega arith);
    access_sites = λ k d lt. absurd (omega arith);
    value_places = λ k d lt. absurd (omega arith);
    value_sites = λ k d lt. absurd (omega arith);
  }
