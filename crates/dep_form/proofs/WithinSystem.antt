-- What a system keeps, of each of its parts: the numbers in it are those of something.
use Rattle.std.proofs.Common.{◌≡◌, ◌<◌, ◌≤◌, ℕ, List, length, Option, Some, None}
use Rattle.std.specs.Prelude.{All, slice_get}
use Rattle.std.proofs.Math.Logic.{∥∥₁_elim}
use Rattle.std.proofs.Props.{props}
use Rattle.dep_form.specs.declared.rules.Var.{Var}
use Rattle.dep_form.specs.declared.rules.Rule.{Rule}
use Rattle.dep_form.specs.declared.rules.Rule.TheVariants.{Enter, Alloc, Hold, Copy, Load, Store, Direct, Virtual, OutsideDirect}
use Rattle.dep_form.specs.declared.rules.Constraint.{Constraint}
use Rattle.dep_form.specs.declared.rules.MethodVars.{MethodVars}
use Rattle.dep_form.specs.declared.rules.OutsideRule.{OutsideRule}
use Rattle.dep_form.specs.declared.rules.SiteInfo.{SiteInfo}
use Rattle.dep_form.specs.declared.call_site.CallSite.{CallSite}
use Rattle.dep_form.specs.declared.system.System.{System}
use Rattle.dep_form.specs.Within.{Counts, IsWithinRule, IsWithinConstraint, IsWithinCall, IsWithinMethod, IfVar, IfSite, IfPlace, IsVar, IsRuleOf}
use Rattle.dep_form.proofs.Searching.{all_at}

-- how many of each thing a system has
abbrev pub counts_of : System → Counts
counts_of s = record { calls = length s.calls; methods = length s.methods; sites = length s.sites; fields = s.fields; vars = s.vars }

rule_prop : (n : Counts) (r : Rule) → IsProp (IsWithinRule n r)
rule_prop n (Enter t) = let h : IsProp (t.0 < n.methods) = (hlevel props) in h
rule_prop n (Alloc v h) = let h : IsProp ((v.0 < n.vars) × (h.0 < n.sites)) = (hlevel props) in h
rule_prop n (Hold a b) = let h : IsProp ((a.0 < n.sites) × (b.0 < n.sites)) = (hlevel props) in h
rule_prop n (Copy a b k) = let h : IsProp ((a.0 < n.vars) × (b.0 < n.vars)) = (hlevel props) in h
rule_prop n (Load b f t) = let h : IsProp ((b.0 < n.vars) × (f.0 < n.fields) × (t.0 < n.vars)) = (hlevel props) in h
rule_prop n (Store b f v) = let h : IsProp ((b.0 < n.vars) × (f.0 < n.fields) × (v.0 < n.vars)) = (hlevel props) in h
rule_prop n (Direct c t) = let h : IsProp ((c.0 < n.calls) × (t.0 < n.methods)) = (hlevel props) in h
rule_prop n (Virtual c g) = let h : IsProp (c.0 < n.calls) = (hlevel props) in h
rule_prop n (OutsideDirect c) = let h : IsProp (c.0 < n.calls) = (hlevel props) in h

-- a rule of the system names what is there
pub rule_within : (s : System) (k : ℕ) (c : Constraint) → slice_get s.constraints k ≡ Some c → IsWithinRule (counts_of s) c.rule
rule_within s k c at = ∥∥₁_elim s.within (rule_prop (counts_of s) c.rule) (λ w. (all_at (IsWithinConstraint (counts_of s)) s.constraints w.0 k c at).1)

-- .. and is of a method or of the root
pub constraint_method : (s : System) (k : ℕ) (c : Constraint) → slice_get s.constraints k ≡ Some c → c.method.0 ≤ length s.methods
constraint_method s k c at = ∥∥₁_elim s.within (hlevel props) (λ w. (all_at (IsWithinConstraint (counts_of s)) s.constraints w.0 k c at).0)

-- the variables of a call are there
pub argument_within : (s : System) (k : ℕ) (c : CallSite) (i : ℕ) (v : Var) → slice_get s.calls k ≡ Some c → slice_get c.arguments i ≡ Some v → v.0 < s.vars
argument_within s k c i v at arg =
    ∥∥₁_elim s.within (hlevel props) (λ w. all_at (IsVar (counts_of s)) c.arguments (all_at (IsWithinCall (counts_of s)) s.calls w.1 k c at).1 i v arg)

pub exception_within : (s : System) (k : ℕ) (c : CallSite) → slice_get s.calls k ≡ Some c → c.exception.0 < s.vars
exception_within s k c at = ∥∥₁_elim s.within (hlevel props) (λ w. (all_at (IsWithinCall (counts_of s)) s.calls w.1 k c at).3)

-- the variables of a method are there
pub formal_within : (s : System) (k : ℕ) (m : MethodVars) (i : ℕ) (v : Var) → slice_get s.methods k ≡ Some m → slice_get m.formals i ≡ Some v → v.0 < s.vars
formal_within s k m i v at arg =
    ∥∥₁_elim s.within (hlevel props) (λ w. all_at (IsVar (counts_of s)) m.formals (all_at (IsWithinMethod (counts_of s)) s.methods w.2 k m at).0 i v arg)

pub thrown_within : (s : System) (k : ℕ) (m : MethodVars) → slice_get s.methods k ≡ Some m → m.thrown.0 < s.vars
thrown_within s k m at = ∥∥₁_elim s.within (hlevel props) (λ w. (all_at (IsWithinMethod (counts_of s)) s.methods w.2 k m at).2)
