-- Nodes that get marks.
use Rattle.std.proofs.Common.{◌≡◌, ◌<◌, ◌≤◌, ◌+◌, ◌-◌, ◌++◌, ◌∷◌, [], ℕ, Bool, true, false, List, length, take, get_or, Contains, Some, ◌⊎◌, inl, inr, refl, sym, subst, ap, ◌∙◌, arith}
use Rattle.std.specs.Prelude.{slice_index_or, slice_set}
use Rattle.std.proofs.lemmas.Bool.{cases_eq, cases_lt}
use Rattle.std.proofs.lemmas.Option.{slice_get_within, same_Some}
use Rattle.std.proofs.lemmas.List.{take_more, get_or-set_same, get_or-set_other, length-set}
use Rattle.std.proofs.lemmas.List.Elements.{Contains-push, Contains-push_cases, Contains-append_left}
use Rattle.slicer_ids.specs.declared.ids.NodeId.{NodeId}
use Rattle.slicer_ids.specs.declared.ids.MethodId.{MethodId}
use Rattle.slicer_ids.specs.declared.ids.Statement.{Statement}
use Rattle.dep_form.specs.declared.facts.Facts.{Facts}
use Rattle.dep_form.specs.declared.input.MethodInput.{MethodInput}
use Rattle.dep_form.specs.Inputs.{BelongsTo, IsInputOf}
use Rattle.dep_form.specs.Nodes.{pc_of}
use Rattle.dep_form.specs.Slices.{NodesOf}
use Rattle.dep_form.proofs.OneMethod.{one_node}
use Rattle.worklists.proofs.Growing.{Grows-none, Grows-then, Grows-same}
use Rattle.widening.specs.Edges.{Opens, IsAmongOf}

pub opens_none : (D : NodeId → Type 0) (marks : List Bool) (into : List NodeId) → ((n : NodeId) → D n → ⊥) → Opens D marks marks into into
opens_none D marks into never = record { len = refl; kept = λ n h. h; all = λ n d. absurd (never n d); only = λ n h. inl h; grown = Grows-none into D never }

pub opens_then : (P Q R : NodeId → Type 0) (a b c : List Bool) (x y z : List NodeId) → ((n : NodeId) → R n → P n ⊎ Q n) → ((n : NodeId) → P n ⊎ Q n → R n) → Opens P a b x y → Opens Q b c y z → Opens R a c x z
opens_then P Q R a b c x y z to from g h = record {
  len = h.len ∙ g.len;
  kept = λ n k. h.kept n (g.kept n k);
  all = λ n r. elim (to n r) [ inl p ↦ h.kept n (g.all n p) | inr q ↦ h.all n q ];
  only = λ n k. elim (h.only n k) [ inl m ↦ elim (g.only n m) [ inl o ↦ inl o | inr p ↦ inr (from n (inl p)) ] | inr q ↦ inr (from n (inr q)) ];
  grown = Grows-then x y z P Q R to from g.grown h.grown;
}

pub opens_same : (P Q : NodeId → Type 0) (a b : List Bool) (x y : List NodeId) → ((n : NodeId) → P n → Q n) → ((n : NodeId) → Q n → P n) → Opens P a b x y → Opens Q a b x y
opens_same P Q a b x y to from g = record {
  len = g.len;
  kept = g.kept;
  all = λ n q. g.all n (from n q);
  only = λ n k. elim (g.only n k) [ inl o ↦ inl o | inr p ↦ inr (to n p) ];
  grown = Grows-same x y P Q to from g.grown;
}

-- one node
pub opens_one : (D : NodeId → Type 0) (n : NodeId) (marks : List Bool) (into : List NodeId) → n.0 < length marks → D n → ((m : NodeId) → D m → m ≡ n) → Opens D marks (slice_set marks n.0 true) into (into ++ n ∷ [])
opens_one D n marks into lt d one = record {
  len = length-set marks n.0 true;
  kept = λ m h. elim (cases_eq m.0 n.0) [ inl is ↦ here m is | inr ne ↦ get_or-set_other marks n.0 m.0 true false ne ∙ h ];
  all = λ m h. here m (ap (λ (y : NodeId). y.0) (one m h));
  only = λ m h. elim (cases_eq m.0 n.0) [ inl is ↦ inr (subst D (ap (λ (k : ℕ). record { 0 = k }) (sym is)) d) | inr ne ↦ inl (sym (get_or-set_other marks n.0 m.0 true false ne) ∙ h) ];
  grown = record {
    front = (n ∷ [], refl);
    all = λ m h. subst (λ (y : NodeId). Contains (into ++ n ∷ []) y) (sym (one m h)) (Contains-push into n);
    only = λ m c. elim (Contains-push_cases into n m c) [ inl o ↦ inl o | inr is ↦ inr (subst D is d) ];
  };
}
  where
    here : (m : NodeId) → m.0 ≡ n.0 → slice_index_or (slice_set marks n.0 true) m.0 false ≡ true
    here m is = ap (λ (k : ℕ). slice_index_or (slice_set marks n.0 true) k false) is ∙ get_or-set_same marks n.0 true false lt

-- a node belongs to one statement
pub one_statement : (f : Facts) (n : NodeId) (s t : Statement) → BelongsTo f.inputs n s → BelongsTo f.inputs n t → s ≡ t
one_statement f n s t b c =
    let o = one_node f n s.method t.method b.0 c.0 b.1 c.1 in
    let pc : s.pc ≡ t.pc = same_Some s.pc t.pc (sym b.2 ∙ ap pc_of o.1 ∙ c.2) in
    ap (λ (m : MethodId). record { method = m; pc = s.pc }) o.0 ∙ ap (λ (k : ℕ). record { method = t.method; pc = k }) pc

-- the first nodes of a method, and all of them
module _ (f : Facts) (s : Statement) (i : MethodInput) (there : IsInputOf f.inputs s.method i) where
  pub among_none : (n : NodeId) → IsAmongOf f s i.first.0 0 n → ⊥
  among_none n h = omega (arith, h.1)

  pub among_more : (k : ℕ) (n : NodeId) → IsAmongOf f s i.first.0 (k + 1) n → IsAmongOf f s i.first.0 k n ⊎ ((n ≡ record { 0 = i.first.0 + k }) × BelongsTo f.inputs n s)
  among_more k n (j, lt, is, b) = elim (cases_lt j k) [
    | inl low ↦ inl (j, low, is, b)
    | inr high ↦ let same : n.0 ≡ i.first.0 + k = omega (arith, is, lt, high) in inr (ap (λ (m : ℕ). record { 0 = m }) same, b)
  ]

  pub among_less : (k : ℕ) (n : NodeId) → IsAmongOf f s i.first.0 k n ⊎ ((n ≡ record { 0 = i.first.0 + k }) × BelongsTo f.inputs n s) → IsAmongOf f s i.first.0 (k + 1) n
  among_less k n (inl h) = (h.0, omega (arith, h.1), h.2, h.3)
  among_less k n (inr h) = (k, omega arith, ap (λ (m : NodeId). m.0) h.0, h.1)

  pub among_all : (k : ℕ) → length i.nodes ≤ k → (n : NodeId) → BelongsTo f.inputs n s → IsAmongOf f s i.first.0 k n
  among_all k le n b =
      let same : b.1.0 ≡ i = some_input b.1.0 i b.1.1 there in
      let at = b.1.2 in
      let low = slice_get_within b.1.0.nodes (n.0 - b.1.0.first.0) b.0 at.1 in
      let tall : length b.1.0.nodes ≡ length i.nodes = ap (λ (x : MethodInput). length x.nodes) same in
      let starts : b.1.0.first.0 ≡ i.first.0 = ap (λ (x : MethodInput). x.first.0) same in
      (n.0 - i.first.0, omega (arith, low, le, tall, starts), omega (arith, at.0, starts), b)
    where
      some_input : (a b : MethodInput) → IsInputOf f.inputs s.method a → IsInputOf f.inputs s.method b → a ≡ b
      some_input a b x y = same_Some a b (same_Some (Some a) (Some b) (sym x ∙ y))

-- one more statement
pub nodes_more : (f : Facts) (ss : List Statement) (k : ℕ) (d : Statement) → k < length ss → (n : NodeId) → NodesOf f.inputs (Contains (take (k + 1) ss)) n → NodesOf f.inputs (Contains (take k ss)) n ⊎ BelongsTo f.inputs n (get_or ss k d)
nodes_more f ss k d lt n (z, c, b) = elim (Contains-push_cases (take k ss) (get_or ss k d) z (subst (λ (xs : List Statement). Contains xs z) (take_more ss k d lt) c)) [
  | inl o ↦ inl (z, o, b)
  | inr is ↦ inr (subst (λ (y : Statement). BelongsTo f.inputs n y) (sym is) b)
]

pub nodes_less : (f : Facts) (ss : List Statement) (k : ℕ) (d : Statement) → k < length ss → (n : NodeId) → NodesOf f.inputs (Contains (take k ss)) n ⊎ BelongsTo f.inputs n (get_or ss k d) → NodesOf f.inputs (Contains (take (k + 1) ss)) n
nodes_less f ss k d lt n (inl h) = (h.0, subst (λ (xs : List Statement). Contains xs h.0) (sym (take_more ss k d lt)) (Contains-append_left (take k ss) (get_or ss k d ∷ []) h.0 h.1), h.2)
nodes_less f ss k d lt n (inr b) = (get_or ss k d, subst (λ (xs : List Statement). Contains xs (get_or ss k d)) (sym (take_more ss k d lt)) (Contains-push (take k ss) (get_or ss k d)), b)
