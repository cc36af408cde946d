-- The methods that a walk back along callers finds are those from which calls lead.
use Rattle.std.proofs.Common.{◌≡◌, ◌↔◌, ◌<◌, ◌≤◌, ℕ, Bool, List, [], ◌∷◌, length, get_or, Contains, refl, sym, ap, subst, ◌∙◌, arith}
use Rattle.slicer_ids.specs.Walks.{IsWalk}
use Rattle.slicer_ids.specs.declared.ids.MethodId.{MethodId}
use Rattle.std.specs.Global.{Vec}
use Rattle.worklist.specs.Worklists.{IsWorklist}
use Rattle.worklists.specs.Growth.{FromOne, Grows}
use Rattle.worklists.proofs.ClosingOne.{Closing, taken_all}
use Rattle.worklists.proofs.Growing.{Grows-same}
use Rattle.mod_ref.specs.Rows.{CallsTo, LeadsInto, method}

abbrev pub Good : List (Vec MethodId) → List MethodId → ℕ → Type 0
Good callers targets n = LeadsInto callers targets (method n)

-- from a method to one of its callers
abbrev pub ToCaller : List (Vec MethodId) → ℕ → ℕ → Type 0
ToCaller callers a b = CallsTo callers (method b) (method a)

pub by_one : (callers : List (Vec MethodId)) (targets : List MethodId) (a b : ℕ) → Good callers targets a → ToCaller callers a b → Good callers targets b
by_one callers targets a b (t, there, (walk, w)) call = (t, there, (method a ∷ walk, (call, w)))

module _ (callers : List (Vec MethodId)) (targets : List MethodId) (next : ℕ) (items : List ℕ) (le : length items ≤ next)
    (start : (t : MethodId) → Contains targets t → Contains items t.0) (c : Closing (Good callers targets) (ToCaller callers) next items) where
  walked : (m t : MethodId) (walk : List MethodId) → Contains targets t → IsWalk (CallsTo callers) m walk t → Contains items m.0
  walked m t [] there e = subst (λ (x : MethodId). Contains items x.0) (sym e) (start t there)
  walked m t (x ∷ walk) there (call, rest) = c.one x.0 m.0 (taken_all next items le x.0 (walked x t walk there rest)) call

  pub all_found : (n : ℕ) → Contains items n ↔ Good callers targets n
  all_found n = (c.each n, λ (t, there, (walk, w)). walked (method n) t walk there w)

pub grows_all : (methods : List MethodId) (old new : List ℕ) → Grows old new (FromOne (λ (m : MethodId) n. n ≡ m.0) methods) → Grows old new (λ n. Contains methods (method n))
grows_all methods old new g = Grows-same old new (FromOne (λ (m : MethodId) n. n ≡ m.0) methods) (λ n. Contains methods (method n))
    (λ n (m, there, e). subst (Contains methods) (ap (λ (k : ℕ). method k) (sym e)) there)
    (λ n c. (method n, c, refl)) g

-- what is listed in a worklist is within the table
pub listed_below : (marks : List Bool) (items : List ℕ) (callers : List (Vec MethodId)) (next x : ℕ) → IsWorklist marks items → length marks ≡ length callers → next < length items → x ≡ get_or items next x → x < length callers
listed_below marks items callers next x set size lt at = omega (arith, set.below next x lt, at, size)
