-- The variables of definitions are variables of the system.
use Rattle.std.proofs.Common.{◌≡◌, ◌<◌, ℕ, Contains, Some}
use Rattle.std.specs.Prelude.{slice_get}
use Rattle.std.proofs.Math.Logic.{∥∥₁_elim}
use Rattle.std.proofs.Props.{props}
use Rattle.class_form.proofs.Indices.{index_in}
use Rattle.class_form.specs.declared.body.Def.{Def}
use Rattle.class_form.specs.declared.body.Def.TheVariants.{Formal, Value, Caught}
use Rattle.dep_form.proofs.Searching.{all_at}
use Rattle.dep_form.proofs.WithinSystem.{counts_of, formal_within}
use Rattle.dep_form.specs.Within.{IsVar, IsWithinMethod}
use Rattle.dep_form.specs.declared.rules.MethodVars.{MethodVars}
use Rattle.dep_form.specs.declared.rules.Var.{Var}
use Rattle.dep_form.specs.declared.system.System.{System}
use Rattle.value_tables.specs.Methods.{IsVarOf}

pub value_within : (s : System) (k : ℕ) (m : MethodVars) (pc : ℕ) (v : Var) → slice_get s.methods k ≡ Some m → Contains m.values (pc, v) → v.0 < s.vars
value_within s k m pc v at among =
    let i = index_in m.values (pc, v) among in
    ∥∥₁_elim s.within (hlevel props) (λ w. all_at (λ (p : ℕ × Var). IsVar (counts_of s) p.1) m.values (all_at (IsWithinMethod (counts_of s)) s.methods w.2 k m at).3 i.0 (pc, v) i.1)

pub caught_within : (s : System) (k : ℕ) (m : MethodVars) (pc : ℕ) (v : Var) → slice_get s.methods k ≡ Some m → Contains m.caught (pc, v) → v.0 < s.vars
caught_within s k m pc v at among =
    let i = index_in m.caught (pc, v) among in
    ∥∥₁_elim s.within (hlevel props) (λ w. all_at (λ (p : ℕ × Var). IsVar (counts_of s) p.1) m.caught (all_at (IsWithinMethod (counts_of s)) s.methods w.2 k m at).4 i.0 (pc, v) i.1)

pub var_within : (s : System) (k : ℕ) (m : MethodVars) (d : Def) (v : Var) → slice_get s.methods k ≡ Some m → IsVarOf m d v → v.0 < s.vars
var_within s k m (Formal i) v at is = formal_within s k m i v at is
var_within s k m (Value pc) v at is = value_within s k m pc v at is
var_within s k m (Caught h) v at is = caught_within s k m h v at is
