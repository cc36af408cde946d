-- The methods that the root calls, as lists have them.
use Rattle.std.proofs.Common.{◌≡◌, ◌⊎◌, ◌↔◌, ◌<◌, ℕ, Bool, List, [], Contains, length, Some, inl, inr, refl, sym, ap, subst, ◌∙◌, arith}
use Rattle.std.specs.Prelude.{slice_get, AllPairs}
use Rattle.std.specs.declared.cmp.Ordering.{Ordering}
use Rattle.std.specs.declared.cmp.Ordering.TheVariants.{Less, Equal}
use Rattle.class_form.specs.Classes.{Declared}
use Rattle.class_form.specs.Numbers.{AreMethods}
use Rattle.class_form.specs.declared.class_file.ClassFile.{ClassFile}
use Rattle.class_form.proofs.Indices.{there_at}
use Rattle.dep_form.specs.declared.rules.Constraint.{Constraint}
use Rattle.dep_form.specs.declared.rules.Rule.{Rule}
use Rattle.dep_form.specs.declared.rules.Rule.TheVariants.{Enter}
use Rattle.dep_form.specs.declared.system.System.{System}
use Rattle.dep_form.specs.PointsTo.{Reached}
use Rattle.dep_form.specs.Constraints.{SystemHolds}
use Rattle.dep_form.specs.Orders.{RiseBy}
use Rattle.program_form.specs.Programs.{Program, IsInitializer}
use Rattle.program_code.specs.Codes.{IsProgramOfCode}
use Rattle.fact_form.specs.EntryCalls.{AreEntryCalls, IsEntered, root_of}
use Rattle.fact_form.proofs.Counting.{reached_in_range}
use Rattle.fact_form.proofs.ItemLists.{all_of}
use Rattle.slicer_ids.specs.declared.ids.MethodId.{MethodId}
use Rattle.slicer_ids.specs.contracts.ids.MethodIdOrd.TheImpl as of_method
use Rattle.slicer_ids.specs.contracts.ids.MethodIdPartialEq.TheImpl as tested_method
use Rattle.worklist.proofs.Orders.{nat_less, nat_equal}
use Rattle.worklists.specs.Growth.{FromOne}
use Rattle.worklists.proofs.Growing.{FromBelow}
use Rattle.mod_ref.specs.Gains.{Gains}
use Rattle.mod_ref.proofs.Sorting.{IsExactOrder}
use Rattle.method_facts.specs.Numbers.{MethodBefore}
use Rattle.method_facts.specs.Entering.{AtNumber, Enters, IsInitializerIn, IsInitializerOf}
use Rattle.method_facts.proofs.MethodNumbers.{one_numbering}

-- ---- the order of methods
abbrev pub method_cmp : MethodId → MethodId → Ordering
method_cmp = (of_method.ghosts).cmp

abbrev pub method_eq : MethodId → MethodId → Bool
method_eq = (tested_method.ghosts).eq

method_less : (a b : MethodId) → method_cmp a b ≡ Less → MethodBefore a b
method_less a b h = nat_less a.0 b.0 h

method_equal : (a b : MethodId) → method_cmp a b ≡ Equal → a ≡ b
method_equal a b h = ap (λ (n : ℕ). record { 0 = n }) (nat_equal a.0 b.0 h)

pub methods_exact : IsExactOrder method_eq method_cmp
methods_exact = record { total = of_method.Laws.total-law; ties = of_method.Laws.matches_eq-law; exact = method_equal }

pub in_order : (xs : List MethodId) → RiseBy method_cmp (λ m. m) xs → AllPairs MethodBefore xs
in_order xs rise = λ i j d lt within. method_less _ _ (rise i j d lt within)

-- ---- constraints of the root
enters_there : (s : System) (t : MethodId) → FromOne (Enters (root_of s)) s.constraints t → Contains s.constraints (record { method = root_of s; rule = Enter t })
enters_there s t (k, among, (e, r)) =
    subst (λ (z : Rule). Contains s.constraints (record { method = root_of s; rule = z })) r
    (subst (λ (z : MethodId). Contains s.constraints (record { method = z; rule = k.rule })) e among)

enters_back : (s : System) (t : MethodId) → Contains s.constraints (record { method = root_of s; rule = Enter t }) → FromOne (Enters (root_of s)) s.constraints t
enters_back s t among = (record { method = root_of s; rule = Enter t }, among, (refl, refl))

-- ---- initializers
pub initializer_there : (p : Program) (classes : List ClassFile) (t : MethodId) → p.classes ≡ classes → IsProgramOfCode p → IsInitializerOf classes t → IsInitializer p t
initializer_there p classes t same coded (methods, are, is) =
    by_numbers (subst (λ (ds : List Declared). IsInitializerIn p.classes ds t) (one_numbering p.classes methods p.methods (subst (λ (ks : List ClassFile). AreMethods ks methods) (sym same) are) coded.methods)
    (subst (λ (ks : List ClassFile). IsInitializerIn ks methods t) (sym same) is))
  where
    by_numbers : IsInitializerIn p.classes p.methods t → IsInitializer p t
    by_numbers (d, x, name, descriptor, at, member, e) = (d, x, name, descriptor, (at, member), e)

pub initializer_back : (p : Program) (classes : List ClassFile) (t : MethodId) → p.classes ≡ classes → IsProgramOfCode p → IsInitializer p t → IsInitializerOf classes t
initializer_back p classes t same coded (d, x, name, descriptor, (at, member), e) =
    subst (λ (ks : List ClassFile). IsInitializerOf ks t) same (p.methods, coded.methods, (d, x, name, descriptor, at, member, e))

-- ---- both
module _ (s : System) (classes : List ClassFile) (all ms : List MethodId) (order : AllPairs MethodBefore ms) (members : (t : MethodId) → Contains ms t ↔ Contains all t)
    (are : (t : MethodId) → Contains all t ↔ (FromOne (Enters (root_of s)) s.constraints t ⊎ FromBelow (AtNumber s classes) (length s.methods) t))
    (p : Program) (same : p.classes ≡ classes) (coded : IsProgramOfCode p) where
  entered_there : (t : MethodId) → FromOne (Enters (root_of s)) s.constraints t ⊎ FromBelow (AtNumber s classes) (length s.methods) t → IsEntered p s t
  entered_there t (inl one) = inl (enters_there s t one)
  entered_there t (inr (n, lt, (e, (reached, is)))) = inr (reached, initializer_there p classes t same coded is)

  entered_back : (t : MethodId) → IsEntered p s t → FromOne (Enters (root_of s)) s.constraints t ⊎ FromBelow (AtNumber s classes) (length s.methods) t
  entered_back t (inl among) = inl (enters_back s t among)
  entered_back t (inr (reached, is)) = inr (t.0, reached_in_range s t reached, (refl, (reached, initializer_back p classes t same coded is)))

  pub entered : AreEntryCalls p s ms
  entered = record {
    each = all_of (IsEntered p s) ms (λ i t e. entered_there t ((are t).0 ((members t).0 (there_at ms i t e))));
    order = order;
    whole = λ t h. (members t).1 ((are t).1 (entered_back t h));
  }
