-- The system of the least program.
use Rattle.std.proofs.Common.{◌≡◌, ◌<◌, ◌≤◌, ◌⊎◌, ℕ, true, false, [], ◌∷◌, Option, Some, None, refl, sym, subst, ap, inl, inr, arith}
use Rattle.std.specs.Prelude.{slice_get, All}
use Rattle.std.proofs.lemmas.List.Elements.{All-cons}
use Rattle.slicer_ids.specs.declared.ids.MethodId.{MethodId}
use Rattle.slicer_ids.specs.declared.ids.ClassId.{ClassId}
use Rattle.slicer_ids.specs.declared.ids.SiteId.{SiteId}
use Rattle.dep_form.specs.declared.rules.Var.{Var}
use Rattle.dep_form.specs.declared.rules.Rule.{Rule}
use Rattle.dep_form.specs.declared.rules.Rule.TheVariants.{Enter, Alloc, Hold, Copy, Load, Store, Direct}
use Rattle.dep_form.specs.declared.rules.Constraint.{Constraint}
use Rattle.dep_form.specs.declared.rules.MethodVars.{MethodVars}
use Rattle.dep_form.specs.declared.rules.SiteInfo.{SiteInfo}
use Rattle.dep_form.specs.declared.call_site.CallSite.{CallSite}
use Rattle.dep_form.specs.declared.system.System.{System}
use Rattle.dep_form.specs.Within.{Counts, IsWithinSystem, IsWithinConstraint, IsWithinCall, IsWithinMethod, IsWithinSpot, IsVar, IfPlace, IfMethod}
use Rattle.dep_form.specs.declared.rules.Touch.{Touch}
use Rattle.dep_form.specs.PointsTo.{Reached, Has, Cell}
use Rattle.dep_form.specs.Constraints.{SystemFact, SystemFollows, SystemHolds, InForce, elements_field, enter, alloc, hold, copy, load, store, direct_calls, direct_enters, direct_receives, virtual_calls, virtual_enters, virtual_receives, virtual_outside, outside_static, outside_special, passes, answers, throws, fresh, gives, writes}
use Rattle.slicer_ids.proofs.Ordered.{Contains-cons_cases}
use Rattle.dep_form.proofs.Closed.{all_in}

abbrev pub root : MethodId
root = record { 0 = 1 }

abbrev pub main : MethodId
main = record { 0 = 0 }

abbrev pub argument : Var
argument = record { 0 = 0 }

abbrev pub array_site : SiteId
array_site = record { 0 = 0 }

abbrev pub string_site : SiteId
string_site = record { 0 = 1 }

abbrev pub main_vars : MethodVars
main_vars = record { formals = argument ∷ []; result = None; thrown = record { 0 = 1 }; values = []; caught = []; native = false }

abbrev pub array_info : SiteInfo
array_info = record { class = None; array = true; place = None; k = 0 }

abbrev pub string_info : SiteInfo
string_info = record { class = None; array = false; place = None; k = 1 }

abbrev pub entering : Constraint
entering = record { method = root; rule = Enter main }

abbrev pub giving : Constraint
giving = record { method = root; rule = Alloc argument array_site }

abbrev pub holding : Constraint
holding = record { method = root; rule = Hold array_site string_site }

pub all_none : {A : Type 0} (P : A → Type 0) → All P []
all_none P = λ k d lt. absurd (omega (arith, lt))

abbrev pub counts : Counts
counts = record { calls = 0; methods = 1; sites = 2; fields = 3; vars = 2 }

pub three : 3 ≤ 3
three = omega arith

pub within_tiny : IsWithinSystem (entering ∷ giving ∷ holding ∷ []) [] (main_vars ∷ []) (array_info ∷ string_info ∷ []) [] [] [] 3 2
within_tiny = (
  All-cons (IsWithinConstraint counts) entering (giving ∷ holding ∷ []) (omega arith, omega arith) (All-cons (IsWithinConstraint counts) giving (holding ∷ []) (omega arith, (omega arith, omega arith)) (All-cons (IsWithinConstraint counts) holding [] (omega arith, (omega arith, omega arith)) (all_none (IsWithinConstraint counts)))),
  all_none (IsWithinCall counts),
  All-cons (IsWithinMethod counts) main_vars [] (All-cons (IsVar counts) argument [] (omega arith) (all_none (IsVar counts)), tt, omega arith, all_none (λ (p : ℕ × Var). IsVar counts p.1), all_none (λ (p : ℕ × Var). IsVar counts p.1)) (all_none (IsWithinMethod counts)),
  All-cons (λ (i : SiteInfo). IfPlace counts i.place) array_info (string_info ∷ []) tt (All-cons (λ (i : SiteInfo). IfPlace counts i.place) string_info [] tt (all_none (λ (i : SiteInfo). IfPlace counts i.place))),
  all_none (λ (t : Touch). (t.place.method.0 < 1) × IsWithinSpot counts t.spot),
  all_none (λ (s : ℕ × ClassId × Option MethodId). IfMethod counts s.2),
  λ i c r e. absurd (cc e),
)

abbrev pub tiny_system : System
tiny_system = record {
  constraints = entering ∷ giving ∷ holding ∷ [];
  calls = [];
  methods = main_vars ∷ [];
  sites = array_info ∷ string_info ∷ [];
  subclasses = [];
  selects = [];
  touches = [];
  outside_rules = [];
  fields = 3;
  vars = 2;
  three_fields = three;
  rule_each = refl;
  within = ∣ within_tiny ∣₁;
}

-- a rule in force is one of the three
force : (K : SystemFact → Type 0) (r : Rule) → InForce tiny_system K r → (r ≡ Enter main) ⊎ ((r ≡ Alloc argument array_site) ⊎ (r ≡ Hold array_site string_site))
force K r h =
    let c : Constraint = record { method = h.0; rule = r } in
    elim (Contains-cons_cases entering c (giving ∷ holding ∷ []) h.1) [
      | inl e ↦ inl (ap (λ (x : Constraint). x.rule) (sym e))
      | inr o ↦ elim (Contains-cons_cases giving c (holding ∷ []) o) [
        | inl e ↦ inr (inl (ap (λ (x : Constraint). x.rule) (sym e)))
        | inr q ↦ elim (Contains-cons_cases holding c [] q) [ inl e ↦ inr (inr (ap (λ (x : Constraint). x.rule) (sym e))) | inr z ↦ absurd (omega (arith, z.1)) ]
      ]
    ]

-- .. and none of another kind
abbrev IsOther : Rule → Type 0
IsOther (Enter t) = ⊥
IsOther (Alloc v h) = ⊥
IsOther (Hold a b) = ⊥
IsOther r = Unit {0}

no_other : (K : SystemFact → Type 0) (r : Rule) → IsOther r → InForce tiny_system K r → ⊥
no_other K r o h = elim (force K r h) [
  | inl e ↦ subst IsOther e o
  | inr q ↦ elim q [ inl e ↦ subst IsOther e o | inr e ↦ subst IsOther e o ]
]

pub no_call : (n : ℕ) (k : CallSite) → slice_get tiny_system.calls n ≡ Some k → ⊥
no_call n k e = absurd (cc e)

abbrev pub SystemKnown : SystemFact → Type 0
SystemKnown f = (f ≡ Reached main) ⊎ ((f ≡ Has argument array_site) ⊎ (f ≡ Cell array_site (elements_field tiny_system) string_site))

closed : {f : SystemFact} → SystemFollows tiny_system SystemKnown f → SystemKnown f
closed (enter {t} p) = elim (force SystemKnown (Enter t) p) [ inl e ↦ inl (cc e) | inr q ↦ elim q [ inl e ↦ absurd (cc e) | inr e ↦ absurd (cc e) ] ]
closed (alloc {v} {h} p) = elim (force SystemKnown (Alloc v h) p) [ inl e ↦ absurd (cc e) | inr q ↦ elim q [ inl e ↦ inr (inl (cc e)) | inr e ↦ absurd (cc e) ] ]
closed (hold {a} {b} p) = elim (force SystemKnown (Hold a b) p) [ inl e ↦ absurd (cc e) | inr q ↦ elim q [ inl e ↦ absurd (cc e) | inr e ↦ inr (inr (cc e)) ] ]
closed (copy {v} {w} {keep} p x e) = absurd (no_other SystemKnown (Copy v w keep) tt p)
closed (load {v} {w} {f} p x y) = absurd (no_other SystemKnown (Load v f w) tt p)
closed (store {v} {w} {f} p x y) = absurd (no_other SystemKnown (Store v f w) tt p)
closed (direct_calls {c} {t} p) = absurd (no_other SystemKnown (Direct c t) tt p)
closed (direct_enters {c} {t} p) = absurd (no_other SystemKnown (Direct c t) tt p)
closed (direct_receives {c} {t} p a b e x) = absurd (no_other SystemKnown (Direct c t) tt p)
closed (virtual_calls {c} {k} p a x e) = absurd (no_call c.0 k a)
closed (virtual_enters {c} {k} p a x e) = absurd (no_call c.0 k a)
closed (virtual_receives {c} {k} p a x e b d) = absurd (no_call c.0 k a)
closed (virtual_outside {c} {k} p a x e) = absurd (no_call c.0 k a)
closed (outside_static {c} {k} p a e) = absurd (no_call c.0 k a)
closed (outside_special {c} {k} p a x) = absurd (no_call c.0 k a)
closed (passes {c} {k} x a b n y e) = absurd (no_call c.0 k a)
closed (answers {c} {k} x a b d e y) = absurd (no_call c.0 k a)
closed (throws {c} {k} x a b y) = absurd (no_call c.0 k a)
closed (fresh {c} {k} x a d e) = absurd (no_call c.0 k a)
closed (gives {c} {k} a b d e x) = absurd (no_call c.0 k a)
closed (writes {c} {k} a d x y) = absurd (no_call c.0 k a)

pub system_known : (f : SystemFact) → SystemHolds tiny_system f → SystemKnown f
system_known f h = all_in tiny_system SystemKnown (λ g x. closed x) h.0 h.1 f h.2

pub system_reached : SystemHolds tiny_system (Reached main)
system_reached = (Reached main ∷ [], (enter (root, (0, omega arith, refl), inl refl), tt), (0, omega arith, refl))

pub system_given : SystemHolds tiny_system (Has argument array_site)
system_given = (Has argument array_site ∷ [], (alloc (root, (1, omega arith, refl), inl refl), tt), (0, omega arith, refl))

pub system_elements : SystemHolds tiny_system (Cell array_site (elements_field tiny_system) string_site)
system_elements = (Cell array_site (elements_field tiny_system) string_site ∷ [], (hold (root, (2, omega arith, refl), inl refl), tt), (0, omega arith, refl))
