-- Numbers that are those of something.
use Rattle.std.proofs.Common.{◌≡◌, ◌<◌, ◌≤◌, ◌+◌, ℕ, List, Some, length, get_or, slice_get, inl, inr, sym, subst, ◌∙◌, arith}
use Rattle.std.proofs.lemmas.Bool.{cases_lt}
use Rattle.std.proofs.lemmas.Option.{get_or_from_slice_get, slice_get_within}
use Rattle.dep_form.specs.declared.call_site.CallSite.{CallSite}
use Rattle.dep_form.specs.declared.rules.OutsideRule.{OutsideRule}
use Rattle.dep_form.specs.Within.{IsRuleOf}
use Rattle.points_to.specs.Sizes.{AreRulesOf}

pub read_is : {X : Type 0} (xs : List X) (k : ℕ) (x y : X) → slice_get xs k ≡ Some x → y ≡ get_or xs k y → y ≡ x
read_is {X} xs k x y e is = is ∙ get_or_from_slice_get xs k x y e

pub rules_more : (calls : List CallSite) (rules : List OutsideRule) (k : ℕ) → ((i : ℕ) (c : CallSite) (r : OutsideRule) → i < k → slice_get calls i ≡ Some c → slice_get rules i ≡ Some r → IsRuleOf c r)
    → ((c : CallSite) (r : OutsideRule) → slice_get calls k ≡ Some c → slice_get rules k ≡ Some r → IsRuleOf c r) → (i : ℕ) (c : CallSite) (r : OutsideRule) → i < k + 1 → slice_get calls i ≡ Some c → slice_get rules i ≡ Some r → IsRuleOf c r
rules_more calls rules k before here i c r lt e f = elim (cases_lt i k) [
  | inl low ↦ before i c r low e f
  | inr high ↦ let same : i ≡ k = omega (arith, high, lt) in here c r (subst (λ n. slice_get calls n ≡ Some c) same e) (subst (λ n. slice_get rules n ≡ Some r) same f)
]

pub all_rules : (calls : List CallSite) (rules : List OutsideRule) (k : ℕ) → length calls ≤ k → ((i : ℕ) (c : CallSite) (r : OutsideRule) → i < k → slice_get calls i ≡ Some c → slice_get rules i ≡ Some r → IsRuleOf c r) → AreRulesOf calls rules
all_rules calls rules k le h = λ i c r e f. h i c r (let lt = slice_get_within calls i c e in omega (arith, lt, le)) e f
