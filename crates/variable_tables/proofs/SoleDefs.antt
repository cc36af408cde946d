-- The number of the definition that alone holds in an operand.
use Rattle.std.proofs.Common.{◌≡◌, ℕ, List, Option, Some, None, subst}
use Rattle.std.specs.Prelude.{◌↔◌}
use Rattle.std.proofs.lemmas.Option.{none-some}
use Rattle.class_form.specs.Reaching.{HoldsIn}
use Rattle.class_form.specs.declared.body.Body.{Body}
use Rattle.class_form.specs.declared.body.Def.{Def}
use Rattle.dep_form.specs.declared.rules.Var.{Var}
use Rattle.dep_form.specs.declared.rules.MethodVars.{MethodVars}
use Rattle.variable_tables.specs.Operands.{IsAlone, DefNumber, IsDefinedAs}

module _ (vs : List MethodVars) (b : Body) (pc i : ℕ) where
  pub defined_one : (d : Def) (o : Option Var) → IsAlone (HoldsIn b.shape pc i) d → ((x : Var) → DefNumber vs b.method d x ↔ (o ≡ Some x))
      → (x : Var) → IsDefinedAs vs b pc i x ↔ (o ≡ Some x)
  defined_one d o alone exact x = (
    λ (e, other, number). (exact x).0 (subst (λ z. DefNumber vs b.method z x) (alone.1 e other.0) number),
    λ is. (d, alone, (exact x).1 is),
  )

  pub defined_none : ((d : Def) → IsAlone (HoldsIn b.shape pc i) d → ⊥) → (x : Var) → IsDefinedAs vs b pc i x ↔ (None ≡ Some x)
  defined_none never x = (λ (d, alone, number). absurd (never d alone), λ e. absurd (none-some x e))
