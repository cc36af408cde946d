-- How many of each thing a system has.
use Rattle.std.specs.Prelude.{◌≡◌, ◌≤◌, ℕ, List, All, length, Option, Some, slice_get}
use Rattle.slicer_ids.specs.declared.ids.ClassId.{ClassId}
use Rattle.slicer_ids.specs.declared.ids.MethodId.{MethodId}
use Rattle.dep_form.specs.declared.call_site.CallSite.{CallSite}
use Rattle.dep_form.specs.declared.rules.OutsideRule.{OutsideRule}
use Rattle.dep_form.specs.declared.rules.SiteInfo.{SiteInfo}
use Rattle.dep_form.specs.Within.{Counts, IfMethod, IfPlace, IsRuleOf, IsWithinCall, IsWithinConstraint, IsWithinMethod}
use Rattle.points_to.specs.declared.checked.Parts.{Parts}
use Rattle.points_to.specs.declared.checked.Sizes.{Sizes}

abbrev pub counts : Sizes → Counts
counts n = record { calls = n.calls; methods = n.methods; sites = n.sites; fields = n.fields; vars = n.vars }

abbrev pub AreTargets : Counts → List (ℕ × ClassId × Option MethodId) → Type 0
AreTargets n selects = All (λ (s : ℕ × ClassId × Option MethodId). IfMethod n s.2) selects

abbrev pub AreRulesOf : List CallSite → List OutsideRule → Type 0
AreRulesOf calls rules = (i : ℕ) (c : CallSite) (r : OutsideRule) → slice_get calls i ≡ Some c → slice_get rules i ≡ Some r → IsRuleOf c r

-- the parts but the outside rules name what is there
abbrev pub ArePartsWithin : Counts → Parts → Type 0
ArePartsWithin n p =
    All (IsWithinConstraint n) p.constraints × All (IsWithinCall n) p.calls × All (IsWithinMethod n) p.methods
    × All (λ (i : SiteInfo). IfPlace n i.place) p.sites × AreTargets n p.selects

-- a system can be made of the parts
pub record IsWhole (p : Parts) : Type 0 where
  pub fields : 3 ≤ p.fields
  pub rule_each : length p.outside_rules ≡ length p.calls
  pub within : ArePartsWithin (record { calls = length p.calls; methods = length p.methods; sites = length p.sites; fields = p.fields; vars = p.vars }) p
  pub rules : AreRulesOf p.calls p.outside_rules
