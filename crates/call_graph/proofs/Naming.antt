-- Calls that are refused, by number.
use Rattle.std.proofs.Common.{◌≡◌, ◌↔◌, ◌⊎◌, ◌<◌, ◌≤◌, ◌+◌, ℕ, Bool, true, false, List, Option, Some, None, length, map, inl, inr, sym, ap, subst, ◌∙◌, arith}
use Rattle.std.specs.Prelude.{Contains, IsTrue, option_map, slice_get}
use Rattle.std.proofs.Math.Logic.{∥∥₁_elim}
use Rattle.std.proofs.Props.{props}
use Rattle.std.proofs.lemmas.Bool.{cases_lt, false≢true}
use Rattle.std.proofs.lemmas.List.Elements.{All-contains}
use Rattle.std.proofs.lemmas.Option.{same_Some, slice_get-map, slice_get_within}
use Rattle.slicer_ids.specs.declared.ids.CallId.{CallId}
use Rattle.slicer_ids.specs.declared.ids.ClassId.{ClassId}
use Rattle.slicer_ids.specs.declared.ids.MethodId.{MethodId}
use Rattle.slicer_ids.specs.declared.ids.Statement.{Statement}
use Rattle.class_form.specs.Classes.{Declared}
use Rattle.class_form.specs.declared.class_file.ClassFile.{ClassFile}
use Rattle.dep_form.specs.declared.call_site.CallSite.{CallSite}
use Rattle.dep_form.specs.declared.solution.Solution.{Solution}
use Rattle.dep_form.specs.declared.system.System.{System}
use Rattle.dep_form.specs.Constraints.{IsCallSite, SystemHolds}
use Rattle.dep_form.specs.PointsTo.{Calls, Reached}
use Rattle.dep_form.specs.Solutions.{IsSolutionOf}
use Rattle.dep_form.specs.Within.{IfPlace, IsWithinCall}
use Rattle.dep_form.proofs.Searching.{all_at}
use Rattle.dep_form.proofs.WithinSystem.{counts_of}
use Rattle.hierarchy.specs.Places.{declared_at}
use Rattle.call_graph.specs.declared.refusals.Refused.{Refused}
use Rattle.call_graph.specs.declared.refusals.RefusedKind.{RefusedKind}
use Rattle.call_graph.specs.declared.refusals.RefusedKind.TheVariants.{Native, Dynamic, Reflection}
use Rattle.call_graph.specs.Refusals.{IsFirst}
use Rattle.call_graph.specs.ByNumber.{IsDynamicAt, IsDynamicIn, IsFirstOf, IsKind, HasNativeFlag, NumberRefuses, RefusedBy, RefusedBySome}
use Rattle.call_graph.proofs.Earliest.{first_of_both, first_same}

-- a call with a place is of a method
pub place_within : (s : System) (k : ℕ) (c : CallSite) (t : Statement) → slice_get s.calls k ≡ Some c → c.place ≡ Some t → t.method.0 < length s.methods
place_within s k c t at is = ∥∥₁_elim s.within (hlevel props) (λ w. subst (IfPlace (counts_of s)) is (all_at (IsWithinCall (counts_of s)) s.calls w.1 k c at).0)

-- the kinds by which a call is refused, from what was found of it
kinds_are : (classes : List ClassFile) (methods : List Declared) (s : System) (c : CallId) (k : CallSite) (t : Statement) (native dynamic : Bool)
    → IsTrue native ↔ ((m : MethodId) × SystemHolds s (Calls c m) × HasNativeFlag s m) → IsTrue dynamic ↔ IsDynamicAt classes methods t
    → (kind : RefusedKind) → IsKind native dynamic k.refused kind ↔ NumberRefuses classes methods s c k t kind
kinds_are classes methods s c k t native dynamic n d Native = n
kinds_are classes methods s c k t native dynamic n d Dynamic = d
kinds_are classes methods s c k t native dynamic n d (Reflection r) = (λ e. e, λ e. e)

-- .. of the call of a number
by_number : (classes : List ClassFile) (methods : List Declared) (s : System) (c : CallId) (k : CallSite) (t : Statement) (native dynamic : Bool)
    → IsCallSite s c k → k.place ≡ Some t → SystemHolds s (Reached t.method)
    → IsTrue native ↔ ((m : MethodId) × SystemHolds s (Calls c m) × HasNativeFlag s m) → IsTrue dynamic ↔ IsDynamicAt classes methods t
    → (r : Refused) → ((r.place ≡ t) × IsKind native dynamic k.refused r.kind) ↔ RefusedBy classes methods s c r
by_number classes methods s c k t native dynamic site place reached n d r = (
  λ (at, kind). (
    k,
    site,
    place ∙ ap (λ (x : Statement). Some x) (sym at),
    subst (λ (x : Statement). SystemHolds s (Reached x.method)) (sym at) reached,
    subst (λ x. NumberRefuses classes methods s c k x r.kind) (sym at) ((kinds_are classes methods s c k t native dynamic n d r.kind).0 kind),
  ),
  λ (other, also, by, there, why).
      let same : other ≡ k = same_Some other k (sym also ∙ site) in
      let at : r.place ≡ t = same_Some r.place t (sym by ∙ ap (λ (x : CallSite). x.place) same ∙ place) in
      (at, (kinds_are classes methods s c k t native dynamic n d r.kind).1 (subst (λ x. NumberRefuses classes methods s c k x r.kind) at (subst (λ (x : CallSite). NumberRefuses classes methods s c x r.place r.kind) same why))),
)

-- what a solution says of a call and of a method
targets_are : (s : System) (sol : Solution) (c : CallId) (targets : List MethodId) → IsSolutionOf s sol → slice_get sol.targets c.0 ≡ Some targets
    → (m : MethodId) → Contains targets m ↔ SystemHolds s (Calls c m)
targets_are s sol c targets solved at m =
    let are = solved.targets c targets at in
    (λ h. All-contains (λ n. SystemHolds s (Calls c n)) targets m are.each h, λ h. are.whole m h)

natives_are : (s : System) (sol : Solution) (c : CallId) (targets : List MethodId) (native : Bool) → IsSolutionOf s sol → slice_get sol.targets c.0 ≡ Some targets
    → IsTrue native ↔ ((m : MethodId) × Contains targets m × HasNativeFlag s m) → IsTrue native ↔ ((m : MethodId) × SystemHolds s (Calls c m) × HasNativeFlag s m)
natives_are s sol c targets native solved at is =
    let goes = targets_are s sol c targets solved at in
    (λ e. let n = is.0 e in (n.0, (goes n.0).0 n.1, n.2), λ (m, calls, flag). is.1 (m, (goes m).1 calls, flag))

-- the first by what was found at the place of a call
pub first_by : (classes : List ClassFile) (methods : List Declared) (s : System) (sol : Solution) (c : CallId) (k : CallSite) (t : Statement) (targets : List MethodId)
    (reached native dynamic : Bool) (o : Option Refused) → IsSolutionOf s sol → IsCallSite s c k → k.place ≡ Some t → slice_get sol.reached t.method.0 ≡ Some reached → reached ≡ true
    → slice_get sol.targets c.0 ≡ Some targets → IsTrue native ↔ ((m : MethodId) × Contains targets m × HasNativeFlag s m) → IsTrue dynamic ↔ IsDynamicAt classes methods t
    → IsFirst (λ r. (r.place ≡ t) × IsKind native dynamic k.refused r.kind) o → IsFirst (RefusedBy classes methods s c) o
first_by classes methods s sol c k t targets reached native dynamic o solved site place runs holds at n d f =
    first_same (λ r. (r.place ≡ t) × IsKind native dynamic k.refused r.kind) (RefusedBy classes methods s c) o
    (by_number classes methods s c k t native dynamic site place ((solved.reached t.method reached runs).0 holds) (natives_are s sol c targets native solved at n) d) f

-- a call without a place, or of a method that isn't reached
pub none_by_root : (classes : List ClassFile) (methods : List Declared) (s : System) (c : CallId) (k : CallSite) → IsCallSite s c k → k.place ≡ None → (r : Refused) → RefusedBy classes methods s c r → ⊥
none_by_root classes methods s c k site none r (other, also, by, there, why) =
    cc (sym by ∙ ap (λ (x : CallSite). x.place) (same_Some other k (sym also ∙ site)) ∙ none)

pub none_unreached : (classes : List ClassFile) (methods : List Declared) (s : System) (sol : Solution) (c : CallId) (k : CallSite) (t : Statement) (reached : Bool) → IsSolutionOf s sol → IsCallSite s c k
    → k.place ≡ Some t → slice_get sol.reached t.method.0 ≡ Some reached → reached ≡ false → (r : Refused) → RefusedBy classes methods s c r → ⊥
none_unreached classes methods s sol c k t reached solved site place runs unset r (other, also, by, there, why) =
    let at : r.place ≡ t = same_Some r.place t (sym by ∙ ap (λ (x : CallSite). x.place) (same_Some other k (sym also ∙ site)) ∙ place) in
    false≢true (sym unset ∙ (solved.reached t.method reached runs).1 (subst (λ (x : Statement). SystemHolds s (Reached x.method)) at there))

-- whether the instruction of a statement is invokedynamic, by the place of its method
pub dynamic_at : (classes : List ClassFile) (places : List (ClassId × ℕ)) (t : Statement) (place : ClassId × ℕ) (is : Bool) → slice_get places t.method.0 ≡ Some place
    → IsTrue is ↔ IsDynamicIn classes (declared_at place) t.pc → IsTrue is ↔ IsDynamicAt classes (map declared_at places) t
dynamic_at classes places t place is at h =
    let there : slice_get (map declared_at places) t.method.0 ≡ Some (declared_at place) = slice_get-map declared_at places t.method.0 ∙ ap (option_map declared_at) at in
    (λ e. (declared_at place, there, h.0 e), λ (d, found, x). h.1 (subst (λ (y : Declared). IsDynamicIn classes y t.pc) (same_Some d (declared_at place) (sym found ∙ there)) x))

-- ---- call by call
abbrev pub RefusedBelow : List ClassFile → List Declared → System → ℕ → Refused → Type 0
RefusedBelow classes methods s n r = (c : CallId) × (c.0 < n) × RefusedBy classes methods s c r

pub none_below : (classes : List ClassFile) (methods : List Declared) (s : System) → IsFirst (RefusedBelow classes methods s 0) None
none_below classes methods s r (c, lt, h) = omega (arith, lt)

pub one_below : (classes : List ClassFile) (methods : List Declared) (s : System) (n : ℕ) (a b r : Option Refused) → IsFirstOf a b r
    → IsFirst (RefusedBelow classes methods s n) a → IsFirst (RefusedBy classes methods s (record { 0 = n })) b → IsFirst (RefusedBelow classes methods s (n + 1)) r
one_below classes methods s n a b r is f g =
    first_same (λ q. RefusedBelow classes methods s n q ⊎ RefusedBy classes methods s (record { 0 = n }) q) (RefusedBelow classes methods s (n + 1)) r
    (λ q. (
      λ h. elim h [ inl (c, lt, x) ↦ (c, omega (arith, lt), x) | inr x ↦ (record { 0 = n }, omega arith, x) ],
      λ (c, lt, x). elim (cases_lt c.0 n) [ inl less ↦ inl (c, less, x) | inr ge ↦ let e : c.0 ≡ n = omega (arith, lt, ge) in inr (subst (λ i. RefusedBy classes methods s (record { 0 = i }) q) e x) ],
    ))
    (first_of_both (RefusedBelow classes methods s n) (RefusedBy classes methods s (record { 0 = n })) a b r is f g)

pub all_below : (classes : List ClassFile) (methods : List Declared) (s : System) (n : ℕ) (r : Option Refused) → length s.calls ≤ n → IsFirst (RefusedBelow classes methods s n) r → IsFirst (RefusedBySome classes methods s) r
all_below classes methods s n r le f = first_same (RefusedBelow classes methods s n) (RefusedBySome classes methods s) r
    (λ q. (λ (c, lt, x). (c, x), λ (c, x). (c, omega (arith, le, slice_get_within s.calls c.0 x.0 x.1), x))) f
