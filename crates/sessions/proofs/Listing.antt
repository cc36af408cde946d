-- Nodes of seeds, and statements of nodes, that are listed one after another.
use Rattle.std.proofs.Common.{◌≡◌, ◌⊎◌, ◌↔◌, ◌<◌, ◌≤◌, ◌+◌, ◌∙◌, ℕ, List, [], ◌∷◌, ◌++◌, Contains, length, All, AllPairs, Some, inl, inr, refl, sym, ap, subst, arith}
use Rattle.std.proofs.lemmas.Bool.{cases_lt}
use Rattle.std.proofs.lemmas.List.Elements.{All-contains_itself, All-weaker, Contains-push, Contains-push_cases, Contains-append_left}
use Rattle.std.proofs.lemmas.Option.{same_Some}
use Rattle.slicer_ids.specs.declared.ids.MethodId.{MethodId}
use Rattle.slicer_ids.specs.declared.ids.NodeId.{NodeId}
use Rattle.slicer_ids.specs.declared.ids.Statement.{Statement}
use Rattle.slicer_ids.specs.Sets.{IsOrderedListOf}
use Rattle.slicer_ids.specs.Order.{StatementBefore}
use Rattle.dep_form.specs.declared.facts.Facts.{Facts}
use Rattle.dep_form.specs.Firsts.{node_count}
use Rattle.dep_form.specs.Nodes.{pc_of}
use Rattle.dep_form.specs.Inputs.{BelongsTo}
use Rattle.dep_form.specs.Slices.{NodesOf, StatementsOf}
use Rattle.dep_form.proofs.OneMethod.{one_node}
use Rattle.thin_slice.proofs.Located.{node_below}

-- a node belongs to one statement
pub one_owner : (f : Facts) (n : NodeId) (s t : Statement) → BelongsTo f.inputs n s → BelongsTo f.inputs n t → s ≡ t
one_owner f n s t a b =
    let same = one_node f n s.method t.method a.0 b.0 a.1 b.1 in
    let pc : s.pc ≡ t.pc = same_Some s.pc t.pc (sym a.2 ∙ ap (λ k. pc_of k) same.1 ∙ b.2) in
    ap (λ (m : MethodId). record { method = m; pc = s.pc }) same.0 ∙ ap (λ (k : ℕ). record { method = t.method; pc = k }) pc

-- ---- a node that belongs to one of the statements, and one that doesn't
module _ (f : Facts) (seeds : List Statement) (n : NodeId) (old : List NodeId) where
  abbrev pub Gained : List NodeId → Type 0
  Gained new = (x : NodeId) → Contains new x ↔ (Contains old x ⊎ ((x ≡ n) × NodesOf f.inputs (Contains seeds) x))

  pub one_more : (s : Statement) → Contains seeds s → BelongsTo f.inputs n s → Gained (old ++ n ∷ [])
  one_more s c b = λ x. (
    λ h. elim (Contains-push_cases old n x h) [ inl d ↦ inl d | inr e ↦ inr (sym e, subst (NodesOf f.inputs (Contains seeds)) e (s, c, b)) ],
    λ h. elim h [ inl d ↦ Contains-append_left old (n ∷ []) x d | inr e ↦ subst (Contains (old ++ n ∷ [])) (sym e.0) (Contains-push old n) ],
  )

  pub none_more : (NodesOf f.inputs (Contains seeds) n → ⊥) → Gained old
  none_more no_seed = λ x. (
    λ h. inl h,
    λ h. elim h [ inl d ↦ d | inr e ↦ absurd (no_seed (subst (NodesOf f.inputs (Contains seeds)) e.0 e.1)) ],
  )

-- its one statement is none of them
pub not_of : (f : Facts) (seeds : List Statement) (n : NodeId) (s : Statement) → BelongsTo f.inputs n s → (Contains seeds s → ⊥) → NodesOf f.inputs (Contains seeds) n → ⊥
not_of f seeds n s b other h = other (subst (Contains seeds) (one_owner f n h.0 s h.2 b) h.1)

-- ---- all nodes below a number
pub nodes_more : (P : NodeId → Type 0) (old new : List NodeId) (i : ℕ) → ((x : NodeId) → Contains old x ↔ ((x.0 < i) × P x))
    → ((x : NodeId) → Contains new x ↔ (Contains old x ⊎ ((x ≡ record { 0 = i }) × P x))) → (x : NodeId) → Contains new x ↔ ((x.0 < i + 1) × P x)
nodes_more P old new i before step x = (
  λ c. elim ((step x).0 c) [
    | inl o ↦ let h = (before x).0 o in (omega (arith, h.0), h.1)
    | inr h ↦ (omega (arith, ap (λ (y : NodeId). y.0) h.0), h.1)
  ],
  λ h. (step x).1 (elim (cases_lt x.0 i) [
    | inl lt ↦ inl ((before x).1 (lt, h.1))
    | inr ge ↦ let e : x.0 ≡ i = omega (arith, h.0, ge) in inr (ap (λ k. record { 0 = k }) e, h.1)
  ]),
)

-- ---- the statements of nodes below a number
pub statements_more : (R : NodeId → Statement → Type 0) (old new : List Statement) (i : ℕ) → ((s : Statement) → Contains old s ↔ ((n : NodeId) × (n.0 < i) × R n s))
    → ((s : Statement) → Contains new s ↔ (Contains old s ⊎ R (record { 0 = i }) s)) → (s : Statement) → Contains new s ↔ ((n : NodeId) × (n.0 < i + 1) × R n s)
statements_more R old new i before step s = (
  λ c. elim ((step s).0 c) [
    | inl o ↦ let h = (before s).0 o in (h.0, omega (arith, h.1), h.2)
    | inr r ↦ (record { 0 = i }, omega arith, r)
  ],
  λ h. (step s).1 (elim (cases_lt h.0.0 i) [
    | inl lt ↦ inl ((before s).1 (h.0, lt, h.2))
    | inr ge ↦ let e : h.0.0 ≡ i = omega (arith, h.1, ge) in inr (subst (λ (n : NodeId). R n s) (ap (λ k. record { 0 = k }) e) h.2)
  ]),
)

-- the statement of a node
pub statement_one : (P : Statement → Type 0) (old : List Statement) (s : Statement) → P s → ((t : Statement) → P t → s ≡ t) → (t : Statement) → Contains (old ++ s ∷ []) t ↔ (Contains old t ⊎ P t)
statement_one P old s p one t = (
  λ h. elim (Contains-push_cases old s t h) [ inl d ↦ inl d | inr e ↦ inr (subst P e p) ],
  λ h. elim h [ inl d ↦ Contains-append_left old (s ∷ []) t d | inr q ↦ subst (Contains (old ++ s ∷ [])) (one t q) (Contains-push old s) ],
)

pub statement_none : (P : Statement → Type 0) (old : List Statement) → ((t : Statement) → P t → ⊥) → (t : Statement) → Contains old t ↔ (Contains old t ⊎ P t)
statement_none P old none t = (λ h. inl h, λ h. elim h [ inl d ↦ d | inr p ↦ absurd (none t p) ])

-- ---- beginning and end
pub nothing : {X : Type 0} (xs : List X) (x : X) → xs ≡ [] → Contains xs x → ⊥
nothing {X} xs x nil c = let bad : Contains {X = X} [] x = subst (λ (ys : List X). Contains ys x) nil c in omega (arith, bad.1)

pub no_nodes_yet : (P : NodeId → Type 0) (xs : List NodeId) → xs ≡ [] → (x : NodeId) → Contains xs x ↔ ((x.0 < 0) × P x)
no_nodes_yet P xs nil x = (λ c. absurd (nothing xs x nil c), λ h. absurd (omega (arith, h.0)))

pub no_statements_yet : (R : NodeId → Statement → Type 0) (xs : List Statement) → xs ≡ [] → (s : Statement) → Contains xs s ↔ ((n : NodeId) × (n.0 < 0) × R n s)
no_statements_yet R xs nil s = (λ c. absurd (nothing xs s nil c), λ h. absurd (omega (arith, h.1)))

-- each node that belongs to a statement is counted
pub counted : (f : Facts) (n : NodeId) (s : Statement) → BelongsTo f.inputs n s → n.0 < node_count f.inputs
counted f n s b = node_below f n s.method b.0 b.1

pub all_nodes : (f : Facts) (seeds : List Statement) (xs : List NodeId) (n size : ℕ) → ((x : NodeId) → Contains xs x ↔ ((x.0 < n) × NodesOf f.inputs (Contains seeds) x)) → size ≤ n → size ≡ node_count f.inputs
    → (x : NodeId) → Contains xs x ↔ NodesOf f.inputs (Contains seeds) x
all_nodes f seeds xs n size members le is x = (
  λ c. ((members x).0 c).1,
  λ h. (members x).1 (omega (arith, le, is, counted f x h.0 h.2), h),
)

pub all_statements : (f : Facts) (P : NodeId → Type 0) (xs : List Statement) (n size : ℕ) → ((s : Statement) → Contains xs s ↔ ((m : NodeId) × (m.0 < n) × (P m × BelongsTo f.inputs m s))) → size ≤ n
    → size ≡ node_count f.inputs → (s : Statement) → Contains xs s ↔ StatementsOf f.inputs P s
all_statements f P xs n size members le is s = (
  λ c. let h = (members s).0 c in (h.0, h.2.0, h.2.1),
  λ h. (members s).1 (h.0, omega (arith, le, is, counted f h.0 s h.2), (h.1, h.2)),
)

-- the list in order has the statements
pub listed : (f : Facts) (P : NodeId → Type 0) (found sorted : List Statement) → ((s : Statement) → Contains found s ↔ StatementsOf f.inputs P s)
    → AllPairs StatementBefore sorted → ((s : Statement) → Contains sorted s ↔ Contains found s) → IsOrderedListOf StatementBefore sorted (StatementsOf f.inputs P)
listed f P found sorted members order same = record {
  each = All-weaker (Contains sorted) (StatementsOf f.inputs P) (λ s c. (members s).0 ((same s).0 c)) sorted (All-contains_itself sorted);
  order = order;
  whole = λ s h. (same s).1 ((members s).1 h);
}

-- ---- statements that aren't among others
module _ (had old : List Statement) (s : Statement) where
  abbrev pub Fills : List Statement → Type 0
  Fills new = (t : Statement) → (Contains had t ⊎ Contains new t) ↔ ((Contains had t ⊎ Contains old t) ⊎ (t ≡ s))

  pub filled : Fills (old ++ s ∷ [])
  filled = λ t. (
    λ h. elim h [
      | inl a ↦ inl (inl a)
      | inr b ↦ elim (Contains-push_cases old s t b) [ inl d ↦ inl (inr d) | inr e ↦ inr (sym e) ]
    ],
    λ h. elim h [
      | inl k ↦ elim k [ inl a ↦ inl a | inr b ↦ inr (Contains-append_left old (s ∷ []) t b) ]
      | inr e ↦ inr (subst (Contains (old ++ s ∷ [])) (sym e) (Contains-push old s))
    ],
  )

  pub filled_before : Contains had s → Fills old
  filled_before c = λ t. (λ h. inl h, λ h. elim h [ inl k ↦ k | inr e ↦ inl (subst (Contains had) (sym e) c) ])

-- the statements of the second list that aren't in the first are in `more`
abbrev pub IsFilled : List Statement → List Statement → List Statement → Type 0
IsFilled had more seen = (t : Statement) → (Contains had t ⊎ Contains more t) ↔ (Contains had t ⊎ Contains seen t)

pub filled_none : (had more : List Statement) → more ≡ [] → IsFilled had more []
filled_none had more nil = subst (λ xs. IsFilled had xs []) (sym nil) (λ t. (λ h. h, λ h. h))

pub filled_more : (had old new seen : List Statement) (s : Statement) → IsFilled had old seen → Fills had old s new → IsFilled had new (seen ++ s ∷ [])
filled_more had old new seen s before step t = (
  λ h. elim ((step t).0 h) [
    | inl k ↦ elim ((before t).0 k) [ inl a ↦ inl a | inr b ↦ inr (Contains-append_left seen (s ∷ []) t b) ]
    | inr e ↦ inr (subst (Contains (seen ++ s ∷ [])) (sym e) (Contains-push seen s))
  ],
  λ h. elim h [
    | inl a ↦ inl a
    | inr b ↦ elim (Contains-push_cases seen s t b) [
      | inl k ↦ (step t).1 (inl ((before t).1 (inr k)))
      | inr e ↦ (step t).1 (inr (sym e))
    ]
  ],
)
