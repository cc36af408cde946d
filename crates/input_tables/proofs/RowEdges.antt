-- Edges by the places of nodes in their row, as they are gathered.
use Rattle.std.proofs.Common.{◌≡◌, ◌↔◌, ◌≤◌, ◌+◌, ℕ, List, AllPairs, Contains, Option, Some, None, length, get_or, inl, inr, refl, sym, ap, subst, ◌∙◌, arith}
use Rattle.std.specs.Prelude.{option_map, slice_get}
use Rattle.std.specs.List.Sorted.{IsNonDecreasingBy}
use Rattle.std.proofs.lemmas.Bool.{cases_lt}
use Rattle.std.proofs.lemmas.Option.{same_Some, slice_get_within}
use Rattle.class_form.proofs.Indices.{index_in, there_at}
use Rattle.class_form.specs.Opcodes.{IsCall, IsThrow}
use Rattle.class_form.specs.Reaches.{AreDefsAt, IsReachOf}
use Rattle.class_form.specs.Reaching.{HoldsAt}
use Rattle.class_form.specs.declared.body.Def.{Def}
use Rattle.class_form.specs.declared.body.Def.TheVariants.{Formal as Argument', Value, Caught}
use Rattle.class_form.specs.declared.body.Point.{Point}
use Rattle.class_form.specs.declared.body.Shape.{Shape}
use Rattle.class_form.specs.declared.body.SlotUse.{SlotUse}
use Rattle.class_form.specs.declared.reach.Reach.{Reach}
use Rattle.dep_form.specs.declared.node.Edge.{Edge}
use Rattle.dep_form.specs.declared.node.Label.{Label}
use Rattle.dep_form.specs.declared.node.Node.{Node}
use Rattle.dep_form.specs.declared.node.Node.TheVariants.{Formal, Own, Exception}
use Rattle.fact_form.specs.FactTables.{StepBefore}
use Rattle.std.proofs.lemmas.List.Elements.{All-contains}
use Rattle.worklists.specs.Growth.{FromOne}
use Rattle.worklists.proofs.Growing.{FromBelow}
use Rattle.input_tables.specs.declared.steps.Step.{Step}
use Rattle.input_tables.specs.Control.{IsStepToFound, StandsAt, step}
use Rattle.input_tables.specs.Edges.{AreRaises, HasHandler, HasOp, IsCaughtAt, IsDefEdge, IsEdgeBy, IsEdgeFound, IsEdgeFrom, IsEdgeTo, IsFoundNode, IsRaise, IsRaiseAt, IsRaiseEdge, IsRaisedAt, IsRaisedNode, IsTakerNode, IsUseEdge, IsValueAt, IsValueNode, edge_of, operand_label}

-- ---- an edge between what was found
pub edge_to : (first a b : ℕ) (to : Option ℕ) (l : Label) → to ≡ Some b → (x : Edge) → (x ≡ edge_of (first + a) (first + b) l) ↔ IsEdgeTo first a to l x
edge_to first a b to l is x = (λ e. (b, is, e), λ (c, at, e). e ∙ ap (λ (z : ℕ). edge_of (first + a) (first + z) l) (same_Some c b (sym at ∙ is)))

pub edge_found : (first a : ℕ) (from to : Option ℕ) (l : Label) → from ≡ Some a → (x : Edge) → IsEdgeTo first a to l x ↔ IsEdgeFound first from to l x
edge_found first a from to l is x = (λ h. (a, is, h), λ (c, at, h). subst (λ (z : ℕ). IsEdgeTo first z to l x) (same_Some c a (sym at ∙ is)) h)

pub edge_by : (first : ℕ) (row : List Node) (k j : Node) (from to : Option ℕ) (l : Label) → ((i : ℕ) → (from ≡ Some i) ↔ (slice_get row i ≡ Some k)) → ((i : ℕ) → (to ≡ Some i) ↔ (slice_get row i ≡ Some j))
    → (x : Edge) → IsEdgeFound first from to l x ↔ IsEdgeBy first row k j l x
edge_by first row k j from to l starts ends x = (λ (a, f, (b, g, e)). (a, b, (starts a).0 f, (ends b).0 g, e), λ (a, b, f, g, e). (a, (starts a).1 f, (b, (ends b).1 g, e)))

-- ---- an edge from a node that was found
pub edge_from_found : (first : ℕ) (row : List Node) (k j : Node) (o : Option Node) (l : Label) → o ≡ Some k → (x : Edge) → IsEdgeBy first row k j l x ↔ IsEdgeFrom first row (IsFoundNode o) j l x
edge_from_found first row k j o l is x = (λ h. (k, is, h), λ (i, at, h). subst (λ (z : Node). IsEdgeBy first row z j l x) (same_Some i k (sym at ∙ is)) h)

pub edge_from_none : (first : ℕ) (row : List Node) (j : Node) (o : Option Node) (l : Label) → o ≡ None → (x : Edge) → IsEdgeFrom first row (IsFoundNode o) j l x → ⊥
edge_from_none first row j o l none x (k, at, h) = absurd (cc (sym none ∙ at))

pub edge_from_same : (first : ℕ) (row : List Node) (K L : Node → Type 0) (j : Node) (l : Label) → ((k : Node) → K k ↔ L k) → (x : Edge) → IsEdgeFrom first row K j l x ↔ IsEdgeFrom first row L j l x
edge_from_same first row K L j l is x = (λ (k, h, by). (k, (is k).0 h, by), λ (k, h, by). (k, (is k).1 h, by))

-- ---- opcodes and nodes of values
pub op_is : (points : List Point) (pc q op : ℕ) (found : Option ℕ) → ((i : ℕ) → (found ≡ Some i) ↔ StandsAt points i pc) → found ≡ Some q → (t : Point) × (slice_get points q ≡ Some t) × (t.op ≡ op)
    → (n : ℕ) → (Some op ≡ Some n) ↔ HasOp points pc n
op_is points pc q op found stands is (t, at, here) n = (to, from)
  where
    to : Some op ≡ Some n → HasOp points pc n
    to e =
        let (u, there, place) = (stands q).0 is in
        let same : u ≡ t = same_Some u t (sym there ∙ at) in
        (t, there_at points q t at, ap (λ (z : Point). z.pc) (sym same) ∙ place, here ∙ same_Some op n e)

    from : HasOp points pc n → Some op ≡ Some n
    from (u, c, place, e) =
        let i = index_in points u c in
        let k : i.0 ≡ q = same_Some i.0 q (sym ((stands i.0).1 (u, i.1, place)) ∙ is) in
        let same : u ≡ t = same_Some u t (sym (subst (λ z. slice_get points z ≡ Some u) k i.1) ∙ at) in
        ap (λ (z : ℕ). Some z) (sym here ∙ ap (λ (z : Point). z.op) (sym same) ∙ e)

pub no_op : (points : List Point) (pc : ℕ) (found : Option ℕ) → ((i : ℕ) → (found ≡ Some i) ↔ StandsAt points i pc) → found ≡ None → (n : ℕ) → HasOp points pc n → ⊥
no_op points pc found stands none n (u, c, place, e) = let i = index_in points u c in absurd (cc (sym none ∙ (stands i.0).1 (u, i.1, place)))

one_value : (op pc : ℕ) (k j : Node) → IsValueNode op pc k → IsValueNode op pc j → k ≡ j
one_value op pc k j (inl (never, e)) (inl (other, f)) = e ∙ sym f
one_value op pc k j (inl (never, e)) (inr (call, f)) = absurd (never call)
one_value op pc k j (inr (call, e)) (inl (never, f)) = absurd (never call)
one_value op pc k j (inr (call, e)) (inr (other, f)) = e ∙ sym f

pub value_is : (points : List Point) (pc op : ℕ) (found : Option ℕ) (node : Node) → ((n : ℕ) → (found ≡ Some n) ↔ HasOp points pc n) → found ≡ Some op → IsValueNode op pc node → (k : Node) → (Some node ≡ Some k) ↔ IsValueAt points pc k
value_is points pc op found node has is of k = (to, from)
  where
    to : Some node ≡ Some k → IsValueAt points pc k
    to e = (op, (has op).0 is, subst (IsValueNode op pc) (same_Some node k e) of)

    from : IsValueAt points pc k → Some node ≡ Some k
    from (n, here, value) =
        let same : n ≡ op = same_Some n op (sym ((has n).1 here) ∙ is) in
        ap (λ (z : Node). Some z) (one_value op pc node k of (subst (λ (z : ℕ). IsValueNode z pc k) same value))

pub no_value : (points : List Point) (pc : ℕ) (found : Option ℕ) → ((n : ℕ) → (found ≡ Some n) ↔ HasOp points pc n) → found ≡ None → (k : Node) → IsValueAt points pc k → ⊥
no_value points pc found has none k (n, here, value) = absurd (cc (sym none ∙ (has n).1 here))

-- ---- what is thrown
-- the point that was lent
pub point_found : {B : Type 0} (now : B → Point) (points : List Point) (q : ℕ) (o : Option B) (b : B) → o ≡ Some b → option_map now o ≡ slice_get points q → slice_get points q ≡ Some (now b)
point_found {B} now points q o b is e = sym e ∙ ap (λ (z : Option B). option_map now z) is

pub no_point : {B : Type 0} (now : B → Point) (points : List Point) (q : ℕ) (o : Option B) → o ≡ None → option_map now o ≡ slice_get points q → (k : Node) → IsRaisedAt points q k → ⊥
no_point {B} now points q o none e k (t, at, raised) = let f : None ≡ Some t = ap (λ (z : Option B). option_map now z) (sym none) ∙ e ∙ at in absurd (cc f)

pub raised_is : (points : List Point) (q : ℕ) (t : Point) (found : Option Node) → slice_get points q ≡ Some t → ((k : Node) → (found ≡ Some k) ↔ IsRaisedNode t.op t.pc k) → (k : Node) → (found ≡ Some k) ↔ IsRaisedAt points q k
raised_is points q t found at is k = (
  λ e. (t, at, (is k).0 e),
  λ (u, there, raised). (is k).1 (subst (λ (z : Point). IsRaisedNode z.op z.pc k) (same_Some u t (sym there ∙ at)) raised),
)

pub throw_is : (op pc : ℕ) → IsThrow op → (k : Node) → (Some (Own pc) ≡ Some k) ↔ IsRaisedNode op pc k
throw_is op pc throw k = (λ e. inl (throw, sym (same_Some (Own pc) k e)), from)
  where
    from : IsRaisedNode op pc k → Some (Own pc) ≡ Some k
    from (inl (h, e)) = ap (λ (z : Node). Some z) (sym e)
    from (inr (call, e)) = absurd (omega (arith, throw, call.1))

pub call_is : (op pc : ℕ) (found : Option Node) → (IsThrow op → ⊥) → ((k : Node) → (found ≡ Some k) ↔ (IsCall op × (k ≡ Exception pc))) → (k : Node) → (found ≡ Some k) ↔ IsRaisedNode op pc k
call_is op pc found never is k = (λ e. inr ((is k).0 e), from)
  where
    from : IsRaisedNode op pc k → found ≡ Some k
    from (inl (h, e)) = absurd (never h)
    from (inr h) = (is k).1 h

-- ---- handlers
pub raise_found : (q h : ℕ) (x : Step) → IsStepToFound h (Some q) x ↔ IsRaise q h x
raise_found q h x = (λ (r, at, e). e ∙ ap (step h) (sym (same_Some q r at)), λ e. (q, refl, e))

pub raise_at : (points : List Point) (q : ℕ) (t : Point) → slice_get points q ≡ Some t → (x : Step) → FromOne (IsRaise q) t.handlers x ↔ IsRaiseAt points q x
raise_at points q t at x = (λ h. (t, at, h), λ (u, there, h). subst (λ (y : Point). FromOne (IsRaise q) y.handlers x) (same_Some u t (sym there ∙ at)) h)

module _ (points : List Point) (h q : ℕ) where
  to_handler : FromBelow (IsRaiseAt points) (length points) (step h q) → HasHandler points h q
  to_handler (n, lt, (t, at, (g, c, e))) =
      let place : q ≡ n = ap (λ (y : Step). y.to) e in
      let handler : h ≡ g = ap (λ (y : Step). y.from) e in
      (t, subst (λ i. slice_get points i ≡ Some t) (sym place) at, subst (Contains t.handlers) (sym handler) c)

  from_handler : HasHandler points h q → FromBelow (IsRaiseAt points) (length points) (step h q)
  from_handler (t, at, c) = (q, slice_get_within points q t at, (t, at, (h, c, refl)))

  pub raise_of : FromBelow (IsRaiseAt points) (length points) (step h q) ↔ HasHandler points h q
  raise_of = (to_handler, from_handler)

pub raises_are : (points : List Point) (steps : List Step) (pairs : List (ℕ × ℕ)) → ((x : Step) → Contains steps x ↔ FromBelow (IsRaiseAt points) (length points) x) → AllPairs StepBefore pairs
    → ((q r : ℕ) → Contains pairs (q, r) ↔ Contains steps (step q r)) → AreRaises points pairs
raises_are points steps pairs is order members = record {
  order = order;
  members = λ h q.
      let a = members h q in
      let b = is (step h q) in
      let d = raise_of points h q in
      (λ c. d.0 (b.0 (a.0 c)), λ c. a.1 (b.1 (d.1 c)));
}

first_at_most : (a b : ℕ × ℕ) → StepBefore a b → a.0 ≤ b.0
first_at_most a b (inl lt) = omega (arith, lt)
first_at_most a b (inr same) = omega (arith, same.0)

-- the handlers of pairs in order don't fall
pub by_handler : (xs : List (ℕ × ℕ)) → AllPairs StepBefore xs → IsNonDecreasingBy (λ (x : ℕ × ℕ). x.0) xs
by_handler xs order i j d le inside = elim (cases_lt i j) [
  | inl lt ↦ first_at_most (get_or xs i d) (get_or xs j d) (order i j d lt inside)
  | inr ge ↦ let e : i ≡ j = omega (arith, le, ge) in omega (arith, ap (λ (k : ℕ). (get_or xs k d).0) e)
]

-- ---- the edges from what a handler catches
module _ (points : List Point) (first : ℕ) (row : List Node) (j : Node) (l : Label) where
  pub caught_is : (raises chosen : List (ℕ × ℕ)) (h : ℕ) → AreRaises points raises → ((x : ℕ × ℕ) → Contains chosen x ↔ (Contains raises x × (x.0 ≡ h))) → (x : Edge) → FromOne (IsRaiseEdge points first row j l) chosen x ↔ IsEdgeFrom first row (IsCaughtAt points h) j l x
  caught_is raises chosen h are is x = (to, from)
    where
      to : FromOne (IsRaiseEdge points first row j l) chosen x → IsEdgeFrom first row (IsCaughtAt points h) j l x
      to (pair, c, (k, raised, by)) =
          let w = (is pair).0 c in
          let here : Contains raises (h, pair.1) = subst (λ (n : ℕ). Contains raises (n, pair.1)) w.1 w.0 in
          (k, (pair.1, (are.members h pair.1).0 here, raised), by)

      from : IsEdgeFrom first row (IsCaughtAt points h) j l x → FromOne (IsRaiseEdge points first row j l) chosen x
      from (k, (q, has, raised), by) = ((h, q), (is (h, q)).1 ((are.members h q).1 has, refl), (k, raised, by))

  -- ---- the edges from a definition
  pub formal_is : (d : Def) (i : ℕ) → d ≡ Argument' i → (x : Edge) → IsEdgeBy first row (Formal i) j l x ↔ IsDefEdge points first row j l d x
  formal_is d i e x = subst (λ (z : Def). IsEdgeBy first row (Formal i) j l x ↔ IsDefEdge points first row j l z x) (sym e)
      (λ by. (Formal i, refl, by), λ (k, same, by). subst (λ (z : Node). IsEdgeBy first row z j l x) same by)

  pub value_edge : (d : Def) (pc : ℕ) → d ≡ Value pc → (x : Edge) → IsEdgeFrom first row (IsValueAt points pc) j l x ↔ IsDefEdge points first row j l d x
  value_edge d pc e x = subst (λ (z : Def). IsEdgeFrom first row (IsValueAt points pc) j l x ↔ IsDefEdge points first row j l z x) (sym e) (λ h. h, λ h. h)

  pub caught_edge : (d : Def) (h : ℕ) → d ≡ Caught h → (x : Edge) → IsEdgeFrom first row (IsCaughtAt points h) j l x ↔ IsDefEdge points first row j l d x
  caught_edge d h e x = subst (λ (z : Def). IsEdgeFrom first row (IsCaughtAt points h) j l x ↔ IsDefEdge points first row j l z x) (sym e) (λ h. h, λ h. h)

-- ---- the edges to an operand
one_taker : (op pc operand : ℕ) (k j : Node) → IsTakerNode op pc operand k → IsTakerNode op pc operand j → k ≡ j
one_taker op pc operand k j (inl (never, e)) (inl (other, f)) = e ∙ sym f
one_taker op pc operand k j (inl (never, e)) (inr (call, f)) = absurd (never call)
one_taker op pc operand k j (inr (call, e)) (inl (never, f)) = absurd (never call)
one_taker op pc operand k j (inr (call, e)) (inr (other, f)) = e ∙ sym f

module _ (points : List Point) (first : ℕ) (row : List Node) (shape : Shape) (reach : Reach) (is : IsReachOf shape reach) (t : Point) (u : SlotUse) where
  pub use_edge : (j : Node) (l : Label) (defs : List Def) → IsTakerNode t.op t.pc u.operand j → l ≡ operand_label u.base → AreDefsAt reach t.pc u.slot defs → (x : Edge) → FromOne (IsDefEdge points first row j l) defs x ↔ IsUseEdge points first row shape t u x
  use_edge j l defs taker label are x = (to, from)
    where
      to : FromOne (IsDefEdge points first row j l) defs x → IsUseEdge points first row shape t u x
      to (d, c, h) = (j, taker, (d, All-contains (HoldsAt shape t.pc u.slot) defs d (is t.pc u.slot defs are).each c, subst (λ (z : Label). IsDefEdge points first row j z d x) label h))

      from : IsUseEdge points first row shape t u x → FromOne (IsDefEdge points first row j l) defs x
      from (k, other, (d, holds, h)) =
          let same : k ≡ j = one_taker t.op t.pc u.operand k j other taker in
          (d, (is t.pc u.slot defs are).whole d holds, subst (λ (z : Node). IsDefEdge points first row z l d x) same (subst (λ (z : Label). IsDefEdge points first row k z d x) (sym label) h))
