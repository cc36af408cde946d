-- The edges to what a method answers and throws are what leaves it.
use Rattle.std.proofs.Common.{◌≡◌, ◌⊎◌, ◌↔◌, ◌++◌, ℕ, List, Contains, Result, Ok, Err, OnOk, inl, inr, refl, sym, subst}
use Rattle.std.proofs.lemmas.List.Elements.{Contains-append_cases, Contains-append_left, Contains-append_right}
use Rattle.slicer_ids.specs.declared.ids.MethodId.{MethodId}
use Rattle.class_form.specs.declared.body.Body.{Body}
use Rattle.dep_form.specs.declared.node.Edge.{Edge}
use Rattle.dep_form.specs.declared.node.Label.{Label}
use Rattle.dep_form.specs.declared.node.Label.TheVariants.{Thin}
use Rattle.dep_form.specs.declared.node.Node.{Node}
use Rattle.dep_form.specs.declared.node.Node.TheVariants.{Exception, Own, Return, Thrown}
use Rattle.program_form.specs.Programs.{Program}
use Rattle.mod_ref.specs.Gains.{Gains}
use Rattle.mod_ref.proofs.Gaining.{gains_same}
use Rattle.input_tables.specs.Exits.{IsExitEdge, IsExitFlow, returns, throws, passes_on}
use Rattle.edge_tables.specs.Ends.{EndFlow}
use Rattle.edge_tables.specs.Rows.{IsLocalEdge}

-- a list that is put behind another
behind : {A : Type 0} (old more new : List A) → new ≡ old ++ more → Gains old new (λ x. Contains more x)
behind {A} old more new e x = (
  λ c. Contains-append_cases old more x (subst (λ (zs : List A). Contains zs x) e c),
  λ h. subst (λ (zs : List A). Contains zs x) (sym e) (elim h [ inl o ↦ Contains-append_left old more x o | inr m ↦ Contains-append_right old more x m ]),
)

pub appended : {A : Type 0} {E : Type 0} (r : Result (Unit {0}) E) (old more new : List A) (P : A → Type 0) → ((x : A) → Contains more x ↔ P x) → OnOk r (new ≡ old ++ more) → OnOk r (Gains old new P)
appended (Ok x) old more new P is e = gains_same old new (λ y. Contains more y) P is (behind old more new e)
appended (Err x) old more new P is e = tt

-- no statement, so nothing leaves
pub no_ends : (p : Program) (m : MethodId) (first : ℕ) (nodes : List Node) → ((b : Body) → Contains p.bodies b → b.method ≡ m → ⊥) → (x : Edge) → IsLocalEdge first nodes (EndFlow p m) x → ⊥
no_ends p m first nodes never x (k, j, start, end, (pc, thin, inl ((b, i, (among, method, has, place, point), kind), e, f))) = never b among method
no_ends p m first nodes never x (k, j, start, end, (pc, thin, inr (may, f, inl ((b, i, (among, method, has, place, point), kind), e)))) = never b among method
no_ends p m first nodes never x (k, j, start, end, (pc, thin, inr (may, f, inr ((b, i, (among, method, has, place, point), kind), e)))) = never b among method

module _ (p : Program) (m : MethodId) where
  -- ---- what leaves, in the words of the tables of inputs
  to_end : (k j : Node) (l : Label) → IsExitFlow p m k j → l ≡ Thin → EndFlow p m k j l
  to_end k j l (returns {pc = pc} op) thin = (pc, thin, inl (op, refl, refl))
  to_end k j l (throws {pc = pc} op may) thin = (pc, thin, inr (may, refl, inl (op, refl)))
  to_end k j l (passes_on {pc = pc} op may) thin = (pc, thin, inr (may, refl, inr (op, refl)))

  named : (k x j y : Node) → k ≡ x → j ≡ y → IsExitFlow p m x y → IsExitFlow p m k j
  named k x j y e f d = subst (λ (w : Node). IsExitFlow p m w j) (sym e) (subst (λ (w : Node). IsExitFlow p m x w) (sym f) d)

  from_end : (k j : Node) (l : Label) → EndFlow p m k j l → IsExitFlow p m k j × (l ≡ Thin)
  from_end k j l (pc, thin, inl (op, e, f)) = (named k (Own pc) j Return e f (returns op), thin)
  from_end k j l (pc, thin, inr (may, f, inl (op, e))) = (named k (Own pc) j Thrown e f (throws op may), thin)
  from_end k j l (pc, thin, inr (may, f, inr (op, e))) = (named k (Exception pc) j Thrown e f (passes_on op may), thin)

  pub ends_are : (first : ℕ) (nodes : List Node) (x : Edge) → IsExitEdge p m first nodes x ↔ IsLocalEdge first nodes (EndFlow p m) x
  ends_are first nodes x = (λ (k, j, start, end, flow, thin). (k, j, start, end, to_end k j x.label flow thin), λ (k, j, start, end, flow). let w = from_end k j x.label flow in (k, j, start, end, w.0, w.1))
