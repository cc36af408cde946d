-- The rules of a system, over the numbers that places have. A set of its own for what an outside call writes stands between the
-- written arguments and the states that they are written into.
use Rattle.std.specs.Prelude.{◌≡◌, ◌⊎◌, ◌<◌, ℕ, Bool, true, false, List, Option, Some, None, Contains, length, slice_get, option_map, option_and_then, if◌then◌else◌}
use Rattle.slicer_ids.specs.declared.ids.CallId.{CallId}
use Rattle.slicer_ids.specs.declared.ids.ClassId.{ClassId}
use Rattle.slicer_ids.specs.declared.ids.FieldId.{FieldId}
use Rattle.slicer_ids.specs.declared.ids.MethodId.{MethodId}
use Rattle.slicer_ids.specs.declared.ids.SiteId.{SiteId}
use Rattle.dep_form.specs.declared.call_site.CallSite.{CallSite}
use Rattle.dep_form.specs.declared.rules.Constraint.{Constraint}
use Rattle.dep_form.specs.declared.rules.MethodVars.{MethodVars}
use Rattle.dep_form.specs.declared.rules.OutsideRule.{OutsideRule}
use Rattle.dep_form.specs.declared.rules.Rule.{Rule}
use Rattle.dep_form.specs.declared.rules.Rule.TheVariants.{Enter, Alloc, Hold, Copy, Load, Store, Direct, Virtual, OutsideDirect}
use Rattle.dep_form.specs.declared.rules.SiteInfo.{SiteInfo}
use Rattle.dep_form.specs.declared.rules.Var.{Var}
use Rattle.dep_form.specs.declared.system.System.{System}
use Rattle.dep_form.specs.Outside.{IsReceiver}
use Rattle.dep_form.specs.Constraints.{IsRoot, Passes, SelectsMethod, SelectsOutside, elements_field, state_field}
use Rattle.points_to.specs.declared.place.Place.{Place}
use Rattle.points_to.specs.declared.place.Place.TheVariants.{Variable, Cell, Targets, Receivers, Static, Written, Running}
use Rattle.points_to.specs.Items.{Item, At, Adds, Flows, Filters, Each, Under, Nothing, Or, Where, Those, OneOf, Below, IfSome}

abbrev pub site : ℕ → SiteId
site n = record { 0 = n }

abbrev pub method : ℕ → MethodId
method n = record { 0 = n }

abbrev pub call : ℕ → CallId
call n = record { 0 = n }

-- ---- what rules look up
-- the variable of the receiver
abbrev pub receiver_of : CallSite → Option Var
receiver_of k = if k.instance then slice_get k.arguments 0 else None

abbrev pub receiver_at : System → CallId → Option Var
receiver_at s c = option_and_then receiver_of (slice_get s.calls c.0)

abbrev pub formal_at : System → MethodId → ℕ → Option Var
formal_at s t i = option_and_then (λ (m : MethodVars). slice_get m.formals i) (slice_get s.methods t.0)

-- what argument i of a call that goes outside may be: of a receiver, what goes outside
abbrev pub IsArgumentPlace : CallId → CallSite → ℕ → Place → Type 0
IsArgumentPlace c k i p =
    (IsReceiver k.instance i × (p ≡ Receivers c))
    ⊎ ((IsReceiver k.instance i → ⊥) × ((a : Var) × (slice_get k.arguments i ≡ Some a) × (p ≡ Variable a)))

-- the field that is the state of a site
abbrev pub state_of : System → ℕ → Option FieldId
state_of s h = option_map (λ (info : SiteInfo). if info.array then elements_field s else state_field s) (slice_get s.sites h)

-- the field that is the elements of an array site
abbrev pub elements_of : System → ℕ → Option FieldId
elements_of s h = option_and_then (λ (info : SiteInfo). if info.array then Some (elements_field s) else None) (slice_get s.sites h)

abbrev pub field_by : System → Bool → ℕ → Option FieldId
field_by s elements h = if elements then elements_of s h else state_of s h

-- ---- constraints
abbrev pub FlowsSome : Option Var → Option Var → List Item → Item → Type 0
FlowsSome a b = IfSome (λ x. IfSome (λ y. Flows (Variable x) (Variable y)) b) a

abbrev pub Copies : System → Var → Var → Option ClassId → List Item → Item → Type 0
Copies s v w None = Flows (Variable v) (Variable w)
Copies s v w (Some c) = Filters (λ n. Passes s (Some c) (site n)) (Variable v) (Variable w)

abbrev pub Loads : Place → FieldId → Place → List Item → Item → Type 0
Loads b f q = Each b (λ o. Flows (Cell (site o) f) q)

abbrev pub Stores : Place → FieldId → Place → List Item → Item → Type 0
Stores b f p = Each b (λ o. Flows p (Cell (site o) f))

abbrev pub Enters : CallId → MethodId → List Item → Item → Type 0
Enters c t = Or (Adds (Targets c) t.0) (Adds Running t.0)

abbrev pub DirectCall : System → CallId → MethodId → List Item → Item → Type 0
DirectCall s c t = Or (Enters c t) (FlowsSome (receiver_at s c) (formal_at s t 0))

-- a method that the class of the receiver selects
abbrev pub Selects : System → CallId → ℕ → MethodId → List Item → Item → Type 0
Selects s c n t = Or (Enters c t) (IfSome (λ v. Adds (Variable v) n) (formal_at s t 0))

abbrev pub Chooses : System → CallId → ℕ → ℕ → List Item → Item → Type 0
Chooses s c g n = Or (Those (SelectsMethod s g (site n)) (Selects s c n)) (Where (SelectsOutside s g (site n)) (Adds (Receivers c) n))

abbrev pub VirtualCall : System → CallId → ℕ → List Item → Item → Type 0
VirtualCall s c g = IfSome (λ v. Each (Variable v) (Chooses s c g)) (receiver_at s c)

abbrev pub GoesOutside : CallId → CallSite → List Item → Item → Type 0
GoesOutside c k = Or (Where (k.instance ≡ false) (Adds (Static c) 0)) (IfSome (λ v. Flows (Variable v) (Receivers c)) (receiver_of k))

-- what a rule says, by its kind
abbrev pub Does : System → Rule → List Item → Item → Type 0
Does s (Enter t) = Adds Running t.0
Does s (Alloc v h) = Adds (Variable v) h.0
Does s (Hold a b) = Adds (Cell a (elements_field s)) b.0
Does s (Copy v w keep) = Copies s v w keep
Does s (Load v f w) = Loads (Variable v) f (Variable w)
Does s (Store v f w) = Stores (Variable v) f (Variable w)
Does s (Direct c t) = DirectCall s c t
Does s (Virtual c g) = VirtualCall s c g
Does s (OutsideDirect c) = IfSome (GoesOutside c) (slice_get s.calls c.0)

-- a rule of a reached method, or of the root
abbrev pub InForce : System → MethodId → (List Item → Item → Type 0) → List Item → Item → Type 0
InForce s m R = Or (Where (IsRoot s m) R) (Under (At Running m.0) R)

abbrev pub Constrains : System → Constraint → List Item → Item → Type 0
Constrains s c = InForce s c.method (Does s c.rule)

-- ---- calls
-- arguments flow to formals, results and exceptions back
abbrev pub Binds : CallSite → MethodVars → List Item → Item → Type 0
Binds k m =
    Or (Below (λ i. Where (IsReceiver k.instance i → ⊥) (FlowsSome (slice_get k.arguments i) (slice_get m.formals i))) (length k.arguments))
    (Or (FlowsSome m.result k.result) (Flows (Variable m.thrown) (Variable k.exception)))

abbrev pub Joins : System → CallSite → ℕ → List Item → Item → Type 0
Joins s k t = IfSome (Binds k) (slice_get s.methods t)

-- what the place has, and what the states of its sites hold
abbrev pub Both : System → Place → Place → List Item → Item → Type 0
Both s q p = Or (Flows p q) (Each p (λ b. IfSome (λ f. Flows (Cell (site b) f) q) (state_of s b)))

abbrev pub BothArguments : System → CallId → CallSite → Place → List ℕ → List Item → Item → Type 0
BothArguments s c k q is = OneOf (λ i. Those (IsArgumentPlace c k i) (Both s q)) is

-- the result of an outside call
abbrev pub Answers : System → CallId → CallSite → OutsideRule → List Item → Item → Type 0
Answers s c k r = IfSome (λ v. IfSome (λ h. BothArguments s c k (Variable v) r.reads) k.fresh) k.result

-- what is written flows into a field of each site of some arguments
abbrev pub Fills : CallId → CallSite → (ℕ → Option FieldId) → List ℕ → List Item → Item → Type 0
Fills c k field is = OneOf (λ i. Those (IsArgumentPlace c k i) (λ p. Each p (λ b. IfSome (λ f. Flows (Written c) (Cell (site b) f)) (field b)))) is

abbrev pub OutsideDoes : System → CallId → CallSite → OutsideRule → List Item → Item → Type 0
OutsideDoes s c k r =
    Or (Answers s c k r)
    (Or (BothArguments s c k (Written c) r.written)
    (Or (Fills c k (state_of s) r.states) (Fills c k (elements_of s) r.arrays)))

-- something fresh from outside
abbrev pub Freshens : CallSite → List Item → Item → Type 0
Freshens k = IfSome (λ v. IfSome (λ (h : SiteId). Adds (Variable v) h.0) k.fresh) k.result

-- the rule, where the call goes outside
abbrev pub IfOutside : CallId → (List Item → Item → Type 0) → List Item → Item → Type 0
IfOutside c R = Or (Each (Receivers c) (λ n. R)) (Under (At (Static c) 0) R)

abbrev pub OutsideCall : System → CallId → CallSite → List Item → Item → Type 0
OutsideCall s c k = IfOutside c (Or (Freshens k) (IfSome (OutsideDoes s c k) (slice_get s.outside_rules c.0)))

abbrev pub CallDoes : System → CallId → CallSite → List Item → Item → Type 0
CallDoes s c k = Or (Each (Targets c) (Joins s k)) (OutsideCall s c k)

-- all rules of a system
abbrev pub Follows : System → List Item → Item → Type 0
Follows s = Or (OneOf (Constrains s) s.constraints) (Below (λ c. IfSome (CallDoes s (call c)) (slice_get s.calls c)) (length s.calls))
