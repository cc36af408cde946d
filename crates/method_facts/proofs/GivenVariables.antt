-- The variables that the root gives sites.
use Rattle.std.proofs.Common.{◌≡◌, ◌↔◌, ℕ, Bool, List, Contains, refl, sym, ap, subst, ◌∙◌}
use Rattle.std.specs.declared.cmp.Ordering.TheVariants.{Equal}
use Rattle.dep_form.specs.declared.rules.Constraint.{Constraint}
use Rattle.dep_form.specs.declared.rules.Rule.{Rule}
use Rattle.dep_form.specs.declared.rules.Rule.TheVariants.{Alloc}
use Rattle.dep_form.specs.declared.rules.Var.{Var}
use Rattle.dep_form.specs.declared.system.System.{System}
use Rattle.dep_form.specs.contracts.rules.VarOrd.TheImpl as of_var
use Rattle.dep_form.specs.contracts.rules.VarPartialEq.TheImpl as tested_var
use Rattle.fact_form.specs.EntryCalls.{root_of}
use Rattle.slicer_ids.specs.declared.ids.MethodId.{MethodId}
use Rattle.worklist.proofs.Orders.{nat_equal}
use Rattle.worklists.specs.Growth.{FromOne}
use Rattle.mod_ref.proofs.Sorting.{IsExactOrder}
use Rattle.method_facts.specs.Numbers.{var_cmp}
use Rattle.method_facts.specs.Entering.{Gives, IsGivenVariable}

abbrev pub var_eq : Var → Var → Bool
var_eq = (tested_var.ghosts).eq

var_equal : (a b : Var) → var_cmp a b ≡ Equal → a ≡ b
var_equal a b h = ap (λ (n : ℕ). record { 0 = n }) (nat_equal a.0 b.0 h)

pub vars_exact : IsExactOrder var_eq var_cmp
vars_exact = record { total = of_var.Laws.total-law; ties = of_var.Laws.matches_eq-law; exact = var_equal }

pub gives_there : (s : System) (x : Var) → FromOne (Gives (root_of s)) s.constraints x → IsGivenVariable s x
gives_there s x (k, among, (h, e, r)) = (
  h,
  subst (λ (z : Rule). Contains s.constraints (record { method = root_of s; rule = z })) r
      (subst (λ (z : MethodId). Contains s.constraints (record { method = z; rule = k.rule })) e among),
)

pub gives_back : (s : System) (x : Var) → IsGivenVariable s x → FromOne (Gives (root_of s)) s.constraints x
gives_back s x (h, among) = (record { method = root_of s; rule = Alloc x h }, among, (h, refl, refl))
