-- Which operands an instruction reads.
use Rattle.std.proofs.Common.{◌≡◌, ◌<◌, ◌≤◌, ℕ, List, Some, None, inl, inr, refl, sym, subst, arith}
use Rattle.std.specs.Prelude.{◌↔◌}
use Rattle.std.proofs.lemmas.Option.{none-some}
use Rattle.class_form.specs.declared.body.Body.{Body}
use Rattle.dep_form.specs.declared.rules.Var.{Var}
use Rattle.dep_form.specs.declared.rules.MethodVars.{MethodVars}
use Rattle.signature_tables.specs.Statements.{statement}
use Rattle.worklists.proofs.Growing.{FromBelow}
use Rattle.variable_tables.specs.declared.tables.OperandPlace.{OperandPlace}
use Rattle.variable_tables.specs.Operands.{IsDefinedAs, IsDefined, Reads, IsReadAt, IsReadBy}

below : (op n i limit : ℕ) → n ≤ limit → 3 ≤ limit → Reads op n i → i < limit
below op n i limit le three (inl (e, r)) = omega (arith, e, three)
below op n i limit le three (inr (inl (e, r))) = omega (arith, e, three)
below op n i limit le three (inr (inr (inl (e, r)))) = omega (arith, e, three)
below op n i limit le three (inr (inr (inr lt))) = omega (arith, lt, le)

pub below_to : (b : Body) (pc op n limit : ℕ) (k : OperandPlace) → FromBelow (IsReadAt b pc op n) limit k → IsReadBy b pc op n k
below_to b pc op n limit k (i, lt, r) = (i, r)

pub below_from : (b : Body) (pc op n limit : ℕ) → n ≤ limit → 3 ≤ limit → (k : OperandPlace) → IsReadBy b pc op n k → FromBelow (IsReadAt b pc op n) limit k
below_from b pc op n limit le three k (i, (e, reads)) = (i, below op n i limit le three reads, (e, reads))

-- .. of the operand at a place
module _ (vs : List MethodVars) (b : Body) (pc op n i : ℕ) where
  pub defined_here : (v : Var) → ((x : Var) → IsDefinedAs vs b pc i x ↔ (Some v ≡ Some x)) → (k : OperandPlace) → IsReadAt b pc op n i k → IsDefined vs b k
  defined_here v exact k (e, reads) = subst (λ z. IsDefined vs b z) (sym e) (v, (exact v).1 refl)

  pub not_defined : ((x : Var) → IsDefinedAs vs b pc i x ↔ (None ≡ Some x)) → IsDefined vs b (record { statement = statement b pc; operand = i }) → ⊥
  not_defined never (x, d) = none-some x ((never x).0 d)
