-- What edges join.
use Rattle.std.proofs.Common.{Bool, true, false, not, eqb, cond, get_or, ◌≡◌, ◌<◌, ◌-◌, ◌≢◌, ◌⊎◌, ℕ, zero, suc, List, [], ◌∷◌, Some, refl, sym, subst, ap, ◌∙◌, inl, inr, arith}
use Rattle.std.specs.Prelude.{slice_get}
use Rattle.std.proofs.Math.Logic.{∥∥₁_elim}
use Rattle.std.proofs.Props.{props}
use Rattle.std.proofs.lemmas.Option.{slice_get_within, slice_get-get_or, same_Some, get_or_from_slice_get}
use Rattle.std.proofs.lemmas.Bool.{cases_eq}
use Rattle.slicer_ids.specs.declared.ids.ExitId.{ExitId}
use Rattle.dep_form.specs.Summaries.{IsExitAt, IsFormalAt}
use Rattle.slicer_ids.specs.declared.ids.NodeId.{NodeId}
use Rattle.slicer_ids.specs.declared.ids.MethodId.{MethodId}
use Rattle.slicer_ids.specs.declared.ids.CallId.{CallId}
use Rattle.dep_form.specs.declared.facts.Facts.{Facts}
use Rattle.dep_form.specs.declared.node.Node.{Node}
use Rattle.dep_form.specs.declared.node.Edge.{Edge}
use Rattle.dep_form.specs.declared.node.Label.TheVariants.{Thin, Base, Call, Return}
use Rattle.std.specs.List.Sorted.{IsPartitionedBy}
use Rattle.std.specs.List.{count_by}
use Rattle.std.proofs.lemmas.List.Sums.{sum_by-cons}
use Rattle.dep_form.specs.declared.node.Label.{Label}
use Rattle.dep_form.specs.declared.input.MethodInput.{MethodInput}
use Rattle.dep_form.specs.Nodes.{is_formal}
use Rattle.dep_form.specs.Inputs.{IsEdge, IsNode, IsInputOf, formal_count}
use Rattle.dep_form.proofs.Levels.{same_call}
use Rattle.dep_form.specs.Phases.{edge}
use Rattle.dep_form.specs.WithinFacts.{InOneMethod}
use Rattle.tabulate.specs.Frames.{node, count, method_of, first, row, IsOf}
use Rattle.tabulate.proofs.Placing.{of_input}

-- a node of a method
pub of_node : (p : Facts) (n : NodeId) (m : MethodId) (k : Node) → IsNode p.inputs n m k → IsOf p n.0 m.0
of_node p n m k h = of_input p n m.0 h.0 h.1 h.2.0 (omega (arith, h.2.0, slice_get_within h.0.nodes (n.0 - h.0.first.0) k h.2.1))

together : (p : Facts) (a b : NodeId) → InOneMethod p.inputs a b → (a.0 < count p) × (b.0 < count p) × (method_of p a.0 ≡ method_of p b.0)
together p a b h =
    let x = of_node p a h.0 h.1 h.3 in
    let y = of_node p b h.0 h.2 h.4 in
    (x.0, y.0, x.1 ∙ sym y.1)

-- an edge within a method
pub thin_fits : (p : Facts) (a n : NodeId) → IsEdge p.inputs (edge a Thin n) → (a.0 < count p) × (n.0 < count p) × (method_of p a.0 ≡ method_of p n.0)
thin_fits p a n e = ∥∥₁_elim p.sound (hlevel props) (λ w. together p a n (w.fit (edge a Thin n) e))

pub base_fits : (p : Facts) (a n : NodeId) → IsEdge p.inputs (edge a Base n) → (a.0 < count p) × (n.0 < count p) × (method_of p a.0 ≡ method_of p n.0)
base_fits p a n e = ∥∥₁_elim p.sound (hlevel props) (λ w. together p a n (w.fit (edge a Base n) e).0)

-- the caller's end of a call, and of a return
pub call_starts : (p : Facts) (a g : NodeId) (k : CallId) → IsEdge p.inputs (edge a (Call k) g) → a.0 < count p
call_starts p a g k e = ∥∥₁_elim p.sound (hlevel props) (λ w. (together p a a (w.one_caller k (edge a (Call k) g) (edge a (Call k) g) a a e e (inl (refl, refl)) (inl (refl, refl)))).0)

pub return_ends : (p : Facts) (e d : NodeId) (k : CallId) → IsEdge p.inputs (edge e (Return k) d) → d.0 < count p
return_ends p e d k h = ∥∥₁_elim p.sound (hlevel props) (λ w. (together p d d (w.one_caller k (edge e (Return k) d) (edge e (Return k) d) d d h h (inr (refl, refl)) (inr (refl, refl)))).0)

-- a call and a return of one call meet in one method
pub one_home : (p : Facts) (a g e d : NodeId) (k : CallId) → IsEdge p.inputs (edge a (Call k) g) → IsEdge p.inputs (edge e (Return k) d) → method_of p a.0 ≡ method_of p d.0
one_home p a g e d k c r = ∥∥₁_elim p.sound (hlevel props) (λ w. (together p a d (w.one_caller k (edge a (Call k) g) (edge e (Return k) d) a d c r (inl (refl, refl)) (inr (refl, refl)))).2)

pub call_ends : (p : Facts) (a g : NodeId) (k : CallId) → IsEdge p.inputs (edge a (Call k) g) → g.0 < count p
call_ends p a g k e = ∥∥₁_elim p.sound (hlevel props) (λ w. let h = w.fit (edge a (Call k) g) e in (of_node p g h.0 h.1 h.2).0)

search_list : (xs : List NodeId) (e : NodeId) → ((k : ℕ) × (slice_get xs k ≡ Some e)) ⊎ ((k : ℕ) → slice_get xs k ≡ Some e → ⊥)
search_list [] e = inr (λ k h. absurd (omega (arith, slice_get_within [] k e h)))
search_list (x ∷ xs) e = elim (cases_eq x.0 e.0) [
  | inl is ↦ inl (0, ap (λ n. Some (node n)) is)
  | inr other ↦ elim (search_list xs e) [ inl h ↦ inl (suc h.0, h.1) | inr none ↦ inr (past other none) ]
]
  where
    past : x.0 ≢ e.0 → ((k : ℕ) → slice_get xs k ≡ Some e → ⊥) → (k : ℕ) → slice_get (x ∷ xs) k ≡ Some e → ⊥
    past other none zero h = other (ap (λ (n : NodeId). n.0) (same_Some x e h))
    past other none (suc k) h = none k h

-- a return starts in an exit
pub return_exit : (p : Facts) (e d : NodeId) (k : CallId) → IsEdge p.inputs (edge e (Return k) d) → (x : ExitId) × IsExitAt p x e
return_exit p e d k r = elim (search_list p.exits e) [
  | inl h ↦ (record { 0 = h.0 }, h.1)
  | inr none ↦ absurd (∥∥₁_elim p.sound (hlevel props) (λ w. let c = w.all_exits.whole e (w.fit (edge e (Return k) d) r) in none c.0 (slice_get-get_or p.exits c.0 e c.1 ∙ ap (λ n. Some n) c.2)))
]

-- an edge by its parts
pub labelled : (p : Facts) (e : Edge) (l : Label) (n : NodeId) → e.label ≡ l → e.to ≡ n → IsEdge p.inputs e → IsEdge p.inputs (edge e.from l n)
labelled p e l n is to h = subst (λ (k : Label). IsEdge p.inputs (edge e.from k n)) is (subst (λ (k : NodeId). IsEdge p.inputs (edge e.from e.label k)) to h)

pub return_starts : (p : Facts) (e d : NodeId) (k : CallId) → IsEdge p.inputs (edge e (Return k) d) → e.0 < count p
return_starts p e d k r = ∥∥₁_elim p.sound (hlevel props) (λ w. let h = w.fit (edge e (Return k) d) r in (of_node p e h.0 h.1.0 h.1.1).0)

not_ne : (t : Bool) → false ≡ not t → t ≡ true
not_ne true e = refl
not_ne false e = absurd cc

-- calls that don't differ are one
pub one_call : (a b : CallId) → false ≡ not (eqb a.0 b.0) → a ≡ b
one_call a b e = same_call a b (not_ne (eqb a.0 b.0) e)

pub formals_below : (nodes : List Node) (k : ℕ) (kind : Node) → IsPartitionedBy is_formal nodes → slice_get nodes k ≡ Some kind → is_formal kind ≡ true → k < count_by is_formal nodes
formals_below [] k kind r e f = absurd (omega (arith, slice_get_within [] k kind e))
formals_below (x ∷ xs) zero kind r e f =
    let one : ◌≡◌ {A = ℕ} (cond (is_formal x) 1 0) 1 = ap (λ b. cond b 1 0) (ap is_formal (same_Some x kind e) ∙ f) in
    omega (arith, one, sum_by-cons (λ y. cond (is_formal y) 1 0) x xs)
formals_below (x ∷ xs) (suc k) kind r e f =
    let lt = slice_get_within xs k kind e in
    let last : is_formal (get_or xs k kind) ≡ true = ap is_formal (get_or_from_slice_get xs k kind kind e) ∙ f in
    let one : ◌≡◌ {A = ℕ} (cond (is_formal x) 1 0) 1 = ap (λ b. cond b 1 0) (r 0 (suc k) kind (omega arith) (omega arith) last) in
    omega (arith, one, sum_by-cons (λ y. cond (is_formal y) 1 0) x xs, formals_below xs k kind (λ i j d le l t. r (suc i) (suc j) d (omega arith) (omega arith) t) e f)

-- what is kept of the method of a formal
pub record IsFormalOf (p : Facts) (g : NodeId) : Type 0 where
  pub method : MethodId
  pub input : MethodInput
  pub there : IsInputOf p.inputs method input
  pub formal : IsFormalAt input (row p g.0) g
  pub below : row p g.0 < formal_count input
  pub owned : method_of p g.0 ≡ method.0
  pub starts : first p method.0 ≡ input.first.0

formal_of : (p : Facts) (g : NodeId) (m : MethodId) (k : Node) → IsNode p.inputs g m k → is_formal k ≡ true → IsFormalOf p g
formal_of p g m k (i, at, n) f =
    let o = of_node p g m k (i, at, n) in
    let start : i.first.0 ≡ first p m.0 = (p.follow_on m.0 i at).1 in
    let place : g.0 - i.first.0 ≡ row p g.0 = omega (arith, start, ap (first p) o.1) in
    record {
      method = m;
      input = i;
      there = at;
      formal = (omega (arith, place, n.0), k, n, f);
      below = omega (arith, place, formals_below i.nodes (g.0 - i.first.0) k i.formals_first n.1 f);
      owned = o.1;
      starts = sym start;
    }

-- a proposition that holds of each formal
pub for_formal : (p : Facts) (a g : NodeId) (k : CallId) (P : Type 0) → IsProp P → IsEdge p.inputs (edge a (Call k) g) → (IsFormalOf p g → P) → P
for_formal p a g k P prop e f = ∥∥₁_elim p.sound prop (λ w. let h = w.fit (edge a (Call k) g) e in f (formal_of p g h.0 h.1 h.2 h.3))
