-- What is owed where the system is made, and where there is none.
use Rattle.std.proofs.Common.{◌≡◌, ◌<◌, ◌≤◌, ◌^◌, ℕ, List, Option, length, inl, inr, refl, sym, ap, subst, arith}
use Rattle.slicer_ids.specs.declared.ids.ClassId.{ClassId}
use Rattle.slicer_ids.specs.declared.ids.MethodId.{MethodId}
use Rattle.slicer_ids.specs.declared.limits.LimitKind.TheVariants.{Methods}
use Rattle.class_form.specs.declared.class_file.ClassFile.{ClassFile}
use Rattle.class_form.specs.declared.body.Body.{Body}
use Rattle.dep_form.specs.declared.rules.Constraint.{Constraint}
use Rattle.dep_form.specs.declared.rules.MethodVars.{MethodVars}
use Rattle.dep_form.specs.declared.rules.OutsideRule.{OutsideRule}
use Rattle.dep_form.specs.declared.rules.SiteInfo.{SiteInfo}
use Rattle.dep_form.specs.declared.rules.Touch.{Touch}
use Rattle.dep_form.specs.declared.rules.TooMany.{TooMany}
use Rattle.dep_form.specs.declared.rules.TooMany.TheVariants.{NoMemory, Limit}
use Rattle.dep_form.specs.declared.call_site.CallSite.{CallSite}
use Rattle.dep_form.specs.declared.system.System.{System}
use Rattle.dep_form.specs.Within.{IsWithinSystem}
use Rattle.program_form.specs.Programs.{Program}
use Rattle.signature_tables.specs.Programs.{IsOfClasses}
use Rattle.signature_tables.specs.declared.type_tables.TypeTables.{TypeTables}
use Rattle.site_tables.specs.Tables.{IsTooMany as AreTooManySites}
use Rattle.variable_tables.specs.declared.tables.VariableTables.{VariableTables}
use Rattle.constraints.specs.Parts.{IsMadeOf}
use Rattle.constraints.specs.Programs.{AreFew, IsTooMany}
use Rattle.constraints.specs.Whole.{IsRoot}
use Rattle.constraints.specs.declared.parts.Parts.{Parts}
use Rattle.constraints.proofs.OfInitializers.{one_count}

-- the same lists are within as well
pub within_moved : (cs ds : List Constraint) (ks ls : List CallSite) (ts us : List Touch) (rs qs : List OutsideRule) (methods : List MethodVars) (sites : List SiteInfo) (selects : List (ℕ × ClassId × Option MethodId))
    (fields vars : ℕ) → ds ≡ cs → ls ≡ ks → us ≡ ts → qs ≡ rs → IsWithinSystem cs ks methods sites ts rs selects fields vars → IsWithinSystem ds ls methods sites us qs selects fields vars
within_moved cs ds ks ls ts us rs qs methods sites selects fields vars a b c d h =
    subst (λ (z : List Constraint). IsWithinSystem z ls methods sites us qs selects fields vars) (sym a)
    (subst (λ (z : List CallSite). IsWithinSystem cs z methods sites us qs selects fields vars) (sym b)
    (subst (λ (z : List Touch). IsWithinSystem cs ks methods sites z qs selects fields vars) (sym c)
    (subst (λ (z : List OutsideRule). IsWithinSystem cs ks methods sites ts z selects fields vars) (sym d) h)))

-- neither too many methods nor too many sites
pub few_made : (parts : Parts) (variables : VariableTables) (sites : List SiteInfo) (types : TypeTables) (fields : ℕ) (s : System) (methods : ℕ) → IsMadeOf parts variables sites types fields s
    → length variables.methods ≡ methods → methods ≤ 2 ^ 16 → length sites ≤ 2 ^ 20 → AreFew s
few_made parts variables sites types fields s methods made count few_methods few_sites = (
  omega (arith, ap (λ (vs : List MethodVars). length vs) made.methods, count, few_methods),
  omega (arith, ap (λ (zs : List SiteInfo). length zs) made.sites_are, few_sites),
)

-- too many
pub too_many_methods : (classes : List ClassFile) (bodies : List Body) (e : TooMany) (p : Program) → IsOfClasses classes p → e ≡ Limit Methods (length p.methods) → 2 ^ 16 < length p.methods → IsTooMany classes bodies e
too_many_methods classes bodies e p of is many =
    subst (λ (z : TooMany). IsTooMany classes bodies z) (sym is) (inl (refl, many, λ q has. one_count classes p q of has))

pub too_many_sites : (classes : List ClassFile) (bodies : List Body) (m : MethodId) → IsRoot classes m → (e : TooMany) → AreTooManySites classes bodies e → IsTooMany classes bodies e
too_many_sites classes bodies m root NoMemory many = tt
too_many_sites classes bodies m root (Limit kind n) many = inr (λ p of. (root p of).1, many)
