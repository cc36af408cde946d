-- No class name begins with the names of two packages.
use Rattle.std.proofs.Common.{◌≡◌, ℕ, true, List, ◌++◌, drop, codes, Some, refl, sym, ap, ◌∙◌}
use Rattle.std.specs.Prelude.{nat_eq}
use Rattle.std.specs.List.{starts_with}
use Rattle.std.proofs.lemmas.Slice.Eq.{starts_is}
use Rattle.std.proofs.lemmas.Bool.Decides.{Decides-eqb}
use Rattle.dep_form.specs.Outside.{IsReflection, for_name, new_instance, reflect, invoke}

not_both : (class : List ℕ) → starts_with nat_eq class (codes "java/lang/reflect/") ≡ true → starts_with nat_eq class (codes "java/lang/invoke/") ≡ true → ⊥
not_both class r i =
    let is : class ≡ codes "java/lang/reflect/" ++ drop 18 class = (starts_is Decides-eqb class (codes "java/lang/reflect/") true (sym r)).0 refl in
    let both : starts_with nat_eq (codes "java/lang/reflect/" ++ drop 18 class) (codes "java/lang/invoke/") ≡ true = ap (λ (c : List ℕ). starts_with nat_eq c (codes "java/lang/invoke/")) (sym is) ∙ i in
    absurd (cc both)

-- the rule for a class of java.lang.reflect is the third alone
pub third_alone : (class name : List ℕ) (n : ℕ) → starts_with nat_eq class (codes "java/lang/reflect/") ≡ true → IsReflection class name n → Some 3 ≡ Some n
third_alone class name n r (for_name c m) = let both : starts_with nat_eq (codes "java/lang/Class") (codes "java/lang/reflect/") ≡ true = ap (λ (x : List ℕ). starts_with nat_eq x (codes "java/lang/reflect/")) (sym c) ∙ r in absurd (cc both)
third_alone class name n r (new_instance c m) = let both : starts_with nat_eq (codes "java/lang/Class") (codes "java/lang/reflect/") ≡ true = ap (λ (x : List ℕ). starts_with nat_eq x (codes "java/lang/reflect/")) (sym c) ∙ r in absurd (cc both)
third_alone class name n r (reflect s) = refl
third_alone class name n r (invoke s) = absurd (not_both class r s)
