-- What the look-ups of rules find.
use Rattle.std.proofs.Common.{◌≡◌, ◌⊎◌, ◌↔◌, ◌∙◌, arith, ℕ, Bool, true, false, List, Option, Some, None, slice_get, refl, sym, subst, inl, inr, if◌then◌else◌}
use Rattle.std.specs.Prelude.{option_and_then, option_map}
use Rattle.slicer_ids.specs.declared.ids.CallId.{CallId}
use Rattle.slicer_ids.specs.declared.ids.FieldId.{FieldId}
use Rattle.slicer_ids.specs.declared.ids.MethodId.{MethodId}
use Rattle.dep_form.specs.declared.call_site.CallSite.{CallSite}
use Rattle.dep_form.specs.declared.rules.MethodVars.{MethodVars}
use Rattle.dep_form.specs.declared.rules.SiteInfo.{SiteInfo}
use Rattle.dep_form.specs.declared.rules.Var.{Var}
use Rattle.dep_form.specs.declared.system.System.{System}
use Rattle.dep_form.specs.Constraints.{IsCallSite, IsMethodVars, IsSite, IsState, IsElements, elements_field, state_field}
use Rattle.points_to.specs.Items.{Item, IfSome}
use Rattle.points_to.specs.Rules.{site, receiver_of, receiver_at, formal_at, state_of, elements_of}

pub some_is : {A : Type 0} (x y : A) → Some x ≡ Some y → x ≡ y
some_is x y e = cc

pub if_some : {X : Type 0} (R : X → List Item → Item → Type 0) (o : Option X) {ps : List Item} {f : Item} → IfSome R o ps f → (x : X) × (o ≡ Some x) × R x ps f
if_some R None r = absurd r
if_some R (Some x) r = (x, refl, r)

pub of_some : {X : Type 0} (R : X → List Item → Item → Type 0) (o : Option X) (x : X) {ps : List Item} {f : Item} → o ≡ Some x → R x ps f → IfSome R o ps f
of_some R o x {ps} {f} e r = subst (λ p. IfSome R p ps f) (sym e) r

then_some : {A B : Type 0} (f : A → Option B) (o : Option A) (y : B) → option_and_then f o ≡ Some y → (x : A) × (o ≡ Some x) × (f x ≡ Some y)
then_some f None y e = absurd cc
then_some f (Some x) y e = (x, refl, e)

some_then : {A B : Type 0} (f : A → Option B) (o : Option A) (x : A) (y : B) → o ≡ Some x → f x ≡ Some y → option_and_then f o ≡ Some y
some_then f o x y e h = subst (λ p. option_and_then f p ≡ Some y) (sym e) h

-- ---- the receiver
receiver_is : (b : Bool) (o : Option Var) (v : Var) → (if b then o else None) ≡ Some v → (b ≡ true) × (o ≡ Some v)
receiver_is true o v e = (refl, e)
receiver_is false o v e = absurd cc

is_receiver : (b : Bool) (o : Option Var) (v : Var) → b ≡ true → o ≡ Some v → (if b then o else None) ≡ Some v
is_receiver true o v t e = e
is_receiver false o v t e = absurd cc

pub receiver_found : (k : CallSite) (v : Var) → receiver_of k ≡ Some v → (k.instance ≡ true) × (slice_get k.arguments 0 ≡ Some v)
receiver_found k v e = receiver_is k.instance (slice_get k.arguments 0) v e

pub found_receiver : (k : CallSite) (v : Var) → k.instance ≡ true → slice_get k.arguments 0 ≡ Some v → receiver_of k ≡ Some v
found_receiver k v t e = is_receiver k.instance (slice_get k.arguments 0) v t e

pub receiver_at_found : (s : System) (c : CallId) (v : Var) → receiver_at s c ≡ Some v → (k : CallSite) × IsCallSite s c k × (k.instance ≡ true) × (slice_get k.arguments 0 ≡ Some v)
receiver_at_found s c v e = let h = then_some receiver_of (slice_get s.calls c.0) v e in let r = receiver_found h.0 v h.2 in (h.0, h.1, r.0, r.1)

pub found_receiver_at : (s : System) (c : CallId) (k : CallSite) (v : Var) → IsCallSite s c k → k.instance ≡ true → slice_get k.arguments 0 ≡ Some v → receiver_at s c ≡ Some v
found_receiver_at s c k v at t e = some_then receiver_of (slice_get s.calls c.0) k v at (found_receiver k v t e)

-- ---- formals
pub formal_found : (s : System) (t : MethodId) (i : ℕ) (v : Var) → formal_at s t i ≡ Some v → (m : MethodVars) × IsMethodVars s t m × (slice_get m.formals i ≡ Some v)
formal_found s t i v e = then_some (λ (m : MethodVars). slice_get m.formals i) (slice_get s.methods t.0) v e

pub found_formal : (s : System) (t : MethodId) (i : ℕ) (m : MethodVars) (v : Var) → IsMethodVars s t m → slice_get m.formals i ≡ Some v → formal_at s t i ≡ Some v
found_formal s t i m v at e = some_then (λ (m : MethodVars). slice_get m.formals i) (slice_get s.methods t.0) m v at e

-- ---- fields that stand for states
map_some : {A B : Type 0} (f : A → B) (o : Option A) (y : B) → option_map f o ≡ Some y → (x : A) × (o ≡ Some x) × (f x ≡ y)
map_some f None y e = absurd cc
map_some f (Some x) y e = (x, refl, some_is (f x) y e)

some_map : {A B : Type 0} (f : A → B) (o : Option A) (x : A) (y : B) → o ≡ Some x → y ≡ f x → option_map f o ≡ Some y
some_map f o x y e h = subst (λ p. option_map f p ≡ Some y) (sym e) (subst (λ z. Some (f x) ≡ Some z) (sym h) refl)

state_cases : (s : System) (b : Bool) (f : FieldId) → (if b then elements_field s else state_field s) ≡ f → ((b ≡ true) × (f ≡ elements_field s)) ⊎ ((b ≡ false) × (f ≡ state_field s))
state_cases s true f e = inl (refl, sym e)
state_cases s false f e = inr (refl, sym e)

pub state_found : (s : System) (h : ℕ) (f : FieldId) → state_of s h ≡ Some f → IsState s (site h) f
state_found s h f e = let i = map_some (λ (info : SiteInfo). if info.array then elements_field s else state_field s) (slice_get s.sites h) f e in
    elim (state_cases s i.0.array f i.2) [ inl a ↦ inl (i.0, i.1, a.0, a.1) | inr a ↦ inr (i.0, i.1, a.0, a.1) ]

pub found_state : (s : System) (h : ℕ) (f : FieldId) → IsState s (site h) f → state_of s h ≡ Some f
found_state s h f (inl p) = some_map (λ (info : SiteInfo). if info.array then elements_field s else state_field s) (slice_get s.sites h) p.0 f p.1 (let e = p.2 in rw e p.3)
found_state s h f (inr p) = some_map (λ (info : SiteInfo). if info.array then elements_field s else state_field s) (slice_get s.sites h) p.0 f p.1 (let e = p.2 in rw e p.3)

elements_case : (b : Bool) (f g : FieldId) → (if b then Some g else None) ≡ Some f → (b ≡ true) × (f ≡ g)
elements_case true f g e = (refl, sym (some_is g f e))
elements_case false f g e = absurd cc

pub elements_found : (s : System) (h : ℕ) (f : FieldId) → elements_of s h ≡ Some f → IsElements s (site h) f
elements_found s h f e = let i = then_some (λ (info : SiteInfo). if info.array then Some (elements_field s) else None) (slice_get s.sites h) f e in
    let a = elements_case i.0.array f (elements_field s) i.2 in (i.0, i.1, a.0, a.1)

pub found_elements : (s : System) (h : ℕ) (f : FieldId) → IsElements s (site h) f → elements_of s h ≡ Some f
found_elements s h f p = some_then (λ (info : SiteInfo). if info.array then Some (elements_field s) else None) (slice_get s.sites h) p.0 f p.1 (let e = p.2 in let g = p.3 in rw (e, g) refl)

-- ---- things that a look-up gives
pub none_of : {X : Type 0} (o : Option X) (P : X → Type 0) → ((x : X) → (o ≡ Some x) ↔ P x) → o ≡ None → (x : X) → P x → ⊥
none_of o P is e x p = let h = (is x).1 p in absurd (grind (arith, e, h))

pub some_of : {X : Type 0} (o : Option X) (P : X → Type 0) (x : X) → ((y : X) → (o ≡ Some y) ↔ P y) → o ≡ Some x → P x
some_of o P x is e = (is x).0 e

pub one_of : {X : Type 0} (o : Option X) (P : X → Type 0) (x : X) → ((y : X) → (o ≡ Some y) ↔ P y) → o ≡ Some x → (y : X) → P y → x ≡ y
one_of o P x is e y p = some_is x y (sym e ∙ (is y).1 p)
