-- The call at a statement.
use Rattle.std.proofs.Common.{◌≡◌, ◌↔◌, ◌<◌, ℕ, List, All, Option, Some, None, inl, inr, sym, ap, subst, ◌∙◌, arith}
use Rattle.std.specs.Prelude.{slice_get, MatchOption}
use Rattle.std.specs.declared.cmp.Ordering.{Ordering}
use Rattle.std.specs.declared.cmp.Ordering.TheVariants.{Less}
use Rattle.std.proofs.lemmas.Bool.{cases_lt}
use Rattle.std.proofs.lemmas.Cmp.{tied_itself}
use Rattle.std.proofs.lemmas.Option.{same_Some, slice_get_within}
use Rattle.slicer_ids.specs.declared.ids.CallId.{CallId}
use Rattle.slicer_ids.specs.declared.ids.SiteId.{SiteId}
use Rattle.slicer_ids.specs.declared.ids.Statement.{Statement}
use Rattle.dep_form.proofs.Searching.{statement_total}
use Rattle.dep_form.proofs.WithinSystem.{argument_within}
use Rattle.dep_form.specs.Orders.{statement_cmp}
use Rattle.dep_form.specs.declared.call_site.CallSite.{CallSite}
use Rattle.dep_form.specs.declared.rules.Var.{Var}
use Rattle.dep_form.specs.declared.system.System.{System}
use Rattle.fact_form.proofs.ItemLists.{all_of, pair_at}
use Rattle.method_facts.specs.Calls.{ArePlaced, IsCallAt, place_of, statement_or_first}
use Rattle.value_tables.specs.Values.{CallHas, CalledHas}

-- calls that stand at one statement don't stand one before the other
before : (calls : List CallSite) (t : Statement) → ArePlaced calls → (i j : ℕ) (k l : CallSite) → i < j → slice_get calls i ≡ Some k → slice_get calls j ≡ Some l → k.place ≡ Some t → l.place ≡ Some t → ⊥
before calls t placed i j k l lt at there e f =
    let less : statement_cmp (place_of k) (place_of l) ≡ Less = pair_at (λ (a b : CallSite). statement_cmp (place_of a) (place_of b) ≡ Less) calls placed.order i j k l lt at there in
    let here : statement_cmp t t ≡ Less = subst (λ (o : Option Statement). statement_cmp t (statement_or_first o) ≡ Less) f (subst (λ (o : Option Statement). statement_cmp (statement_or_first o) (place_of l) ≡ Less) e less) in
    absurd (cc (sym here ∙ tied_itself statement_total t))

pub one_call : (calls : List CallSite) (t : Statement) → ArePlaced calls → (c d : CallId) → IsCallAt calls t c → IsCallAt calls t d → c.0 ≡ d.0
one_call calls t placed c d (k, at, e) (l, there, f) = elim (cases_lt c.0 d.0) [
  | inl lt ↦ absurd (before calls t placed c.0 d.0 k l lt at there e f)
  | inr ge ↦ elim (cases_lt d.0 c.0) [
    | inl lt ↦ absurd (before calls t placed d.0 c.0 l k lt there at f e)
    | inr le ↦ omega (arith, ge, le)
  ]
]

pub called_has : (s : System) (t : Statement) → ArePlaced s.calls → (c : CallId) (k : CallSite) → IsCallAt s.calls t c → slice_get s.calls c.0 ≡ Some k → (h : SiteId) → CallHas s k h ↔ CalledHas s t h
called_has s t placed c k here at h = (
  λ g. (c, k, here, at, g),
  λ (d, l, there, by, g).
      let same : d.0 ≡ c.0 = one_call s.calls t placed d c there here in
      let one' : l ≡ k = same_Some l k (sym by ∙ ap (λ (n : ℕ). slice_get s.calls n) same ∙ at) in
      subst (λ (z : CallSite). CallHas s z h) one' g,
)

pub arguments_within : (s : System) (n : ℕ) (k : CallSite) → slice_get s.calls n ≡ Some k → All (λ (v : Var). v.0 < s.vars) k.arguments
arguments_within s n k at = all_of (λ (v : Var). v.0 < s.vars) k.arguments (λ i v e. argument_within s n k i v at e)

-- what was found in the same list
abbrev Found : List CallSite → Statement → Option CallId → Type 0
Found calls t o = MatchOption o ((c : CallId) → IsCallAt calls t c → ⊥) (λ c. IsCallAt calls t c)

pub found_call : (calls same : List CallSite) (t : Statement) (o : Option CallId) (c : CallId) → same ≡ calls → o ≡ Some c → Found same t o → IsCallAt calls t c
found_call calls same t o c e is h = subst (λ (ks : List CallSite). IsCallAt ks t c) e (let w : Found same t (Some c) = subst (Found same t) is h in w)

pub no_call : (calls same : List CallSite) (t : Statement) (o : Option CallId) (d : CallId) → same ≡ calls → o ≡ None → Found same t o → IsCallAt calls t d → ⊥
no_call calls same t o d e is h there = let w : Found same t None = subst (Found same t) is h in w d (subst (λ (ks : List CallSite). IsCallAt ks t d) (sym e) there)
