-- Each rule over items is a rule of the system: what follows from items that mean facts of K means a fact that follows from K.
use Rattle.std.proofs.Common.{◌≡◌, ◌⊎◌, ℕ, Bool, true, false, List, [], ◌∷◌, Option, Some, None, Contains, length, slice_get, inl, inr, refl, sym, subst, ◌∙◌}
use Rattle.slicer_ids.specs.declared.ids.CallId.{CallId}
use Rattle.slicer_ids.specs.declared.ids.FieldId.{FieldId}
use Rattle.slicer_ids.specs.declared.ids.MethodId.{MethodId}
use Rattle.slicer_ids.specs.declared.ids.SiteId.{SiteId}
use Rattle.dep_form.specs.declared.call_site.CallSite.{CallSite}
use Rattle.dep_form.specs.declared.rules.Constraint.{Constraint}
use Rattle.dep_form.specs.declared.rules.MethodVars.{MethodVars}
use Rattle.dep_form.specs.declared.rules.OutsideRule.{OutsideRule}
use Rattle.dep_form.specs.declared.rules.Rule.{Rule}
use Rattle.dep_form.specs.declared.rules.Rule.TheVariants.{Enter, Alloc, Hold, Copy, Load, Store, Direct, Virtual, OutsideDirect}
use Rattle.dep_form.specs.declared.rules.Var.{Var}
use Rattle.dep_form.specs.declared.system.System.{System}
use Rattle.slicer_ids.specs.Derivations.{IsDerivation}
use Rattle.dep_form.specs.Outside.{IsReceiver}
use Rattle.dep_form.specs.PointsTo.{Has, Cell as Holds, Calls, OutsideAt, Reached, OneMayBe, OutsideArgument, Gives}
use Rattle.dep_form.specs.Constraints.{SystemFact, SystemHolds, SystemFollows, InForce as IsInForce, IsCallSite, ArgumentHas, ReceiverHas, IsState, IsElements, SelectsMethod, enter, alloc, hold, copy, load, store, direct_calls, direct_enters, direct_receives, virtual_calls, virtual_enters, virtual_receives, virtual_outside, outside_static, outside_special, passes, answers, throws, fresh, gives, writes}
use Rattle.points_to.specs.declared.place.Place.{Place}
use Rattle.points_to.specs.declared.place.Place.TheVariants.{Variable, Cell, Targets, Receivers, Static, Written, Running}
use Rattle.points_to.specs.Items.{Item, At, AllOf, IsClosed, Adds, adds, Flows, flows, Filters, filters, Each, each, Under, under, IfSome, Those, Where, OneOf, Below, Or}
use Rattle.points_to.specs.Rules.{site, method, call, receiver_at, formal_at, receiver_of, state_of, elements_of, FlowsSome, Selects, Chooses, VirtualCall, GoesOutside, DirectCall, Does, Constrains, Binds, Joins, Both, BothArguments, IsArgumentPlace, Answers, Fills, OutsideDoes, Freshens, IfOutside, OutsideCall, CallDoes, Follows}
use Rattle.points_to.specs.Meaning.{Means, MeansTrue, IsWrittenBy}
use Rattle.points_to.proofs.Derived.{all_finite, derived, in_derivation, means_wider}
use Rattle.points_to.proofs.Looking.{some_is, if_some, receiver_found, receiver_at_found, formal_found, state_found, elements_found}

module _ (s : System) (K : SystemFact → Type 0) where
  -- what an item means follows from K
  abbrev pub Step : Item → Type 0
  Step (At (Variable v) n) = SystemFollows s K (Has v (site n))
  Step (At (Cell o f) n) = SystemFollows s K (Holds o f (site n))
  Step (At (Targets c) n) = SystemFollows s K (Calls c (method n))
  Step (At (Receivers c) n) = SystemFollows s K (OutsideAt c (Some (site n)))
  Step (At (Static c) n) = SystemFollows s K (OutsideAt c None)
  Step (At (Written c) n) = IsWrittenBy s K c n
  Step (At Running n) = SystemFollows s K (Reached (method n))

  abbrev pub IsStep : (List Item → Item → Type 0) → Type 0
  IsStep R = (ps : List Item) (f : Item) → R ps f → AllOf (Means s K) ps → Step f

  -- ---- constraints
  direct_flow : (c : CallId) (t : MethodId) → IsInForce s K (Direct c t) → (k : CallSite) → IsCallSite s c k → k.instance ≡ true → (v : Var) → slice_get k.arguments 0 ≡ Some v
      → (m : MethodVars) → slice_get s.methods t.0 ≡ Some m → (w : Var) → slice_get m.formals 0 ≡ Some w → IsStep (Flows (Variable v) (Variable w))
  direct_flow c t p k at is v arg m inside w formal _ _ (flows {n}) all = direct_receives p at inside formal (is, (v, arg, all.0))

  direct_step : (c : CallId) (t : MethodId) → IsInForce s K (Direct c t) → IsStep (DirectCall s c t)
  direct_step c t p _ _ (inl (inl adds)) all = direct_calls p
  direct_step c t p _ _ (inl (inr adds)) all = direct_enters p
  direct_step c t p ps f (inr r) all =
      let a = if_some _ (receiver_at s c) r in
      let b = if_some _ (formal_at s t 0) a.2 in
      let k = receiver_at_found s c a.0 a.1 in
      let m = formal_found s t 0 b.0 b.1 in
      direct_flow c t p k.0 k.1 k.2 a.0 k.3 m.0 m.1 b.0 m.2 ps f b.2 all

  module _ (c : CallId) (g : ℕ) (p : IsInForce s K (Virtual c g)) (k : CallSite) (at : IsCallSite s c k) where
    received : (n : ℕ) → ReceiverHas s K k (site n) → (t : MethodId) → SelectsMethod s g (site n) t → (m : MethodVars) → slice_get s.methods t.0 ≡ Some m → (w : Var) → slice_get m.formals 0 ≡ Some w
        → IsStep (Adds (Variable w) n)
    received n h t is m inside w formal _ _ adds all = virtual_receives p at h is inside formal

    chosen : (n : ℕ) → ReceiverHas s K k (site n) → IsStep (Chooses s c g n)
    chosen n h _ _ (inl (t, is, inl (inl adds))) all = virtual_calls p at h is
    chosen n h _ _ (inl (t, is, inl (inr adds))) all = virtual_enters p at h is
    chosen n h ps f (inl (t, is, inr r)) all =
        let b = if_some _ (formal_at s t 0) r in
        let m = formal_found s t 0 b.0 b.1 in
        received n h t is m.0 m.1 b.0 m.2 ps f b.2 all
    chosen n h _ _ (inr (is, adds)) all = virtual_outside p at h is

    chosen_each : k.instance ≡ true → (v : Var) → slice_get k.arguments 0 ≡ Some v → IsStep (Each (Variable v) (Chooses s c g))
    chosen_each is v arg _ f (each {n} {ps} r) all = chosen n (is, (v, arg, all.0)) ps f r all.1

  virtual_step : (c : CallId) (g : ℕ) → IsInForce s K (Virtual c g) → IsStep (VirtualCall s c g)
  virtual_step c g p ps f r all =
      let a = if_some _ (receiver_at s c) r in
      let k = receiver_at_found s c a.0 a.1 in
      chosen_each c g p k.0 k.1 k.2 a.0 k.3 ps f a.2 all

  special_flow : (c : CallId) → IsInForce s K (OutsideDirect c) → (k : CallSite) → IsCallSite s c k → k.instance ≡ true → (v : Var) → slice_get k.arguments 0 ≡ Some v → IsStep (Flows (Variable v) (Receivers c))
  special_flow c p k at is v arg _ _ (flows {n}) all = outside_special p at (is, (v, arg, all.0))

  outside_step : (c : CallId) → IsInForce s K (OutsideDirect c) → (k : CallSite) → IsCallSite s c k → IsStep (GoesOutside c k)
  outside_step c p k at _ _ (inl (is, adds)) all = outside_static p at is
  outside_step c p k at ps f (inr r) all =
      let a = if_some _ (receiver_of k) r in
      let h = receiver_found k a.0 a.1 in
      special_flow c p k at h.0 a.0 h.1 ps f a.2 all

  does_step : (r : Rule) → IsInForce s K r → IsStep (Does s r)
  does_step (Enter t) p _ _ adds all = enter p
  does_step (Alloc v h) p _ _ adds all = alloc p
  does_step (Hold a b) p _ _ adds all = hold p
  does_step (Copy v w None) p _ _ (flows {n}) all = copy p all.0 tt
  does_step (Copy v w (Some c)) p _ _ (filters {n} k) all = copy p all.0 k
  does_step (Load v f w) p _ _ (each {n} (flows)) all = load p all.0 all.1.0
  does_step (Store v f w) p _ _ (each {n} (flows)) all = store p all.0 all.1.0
  does_step (Direct c t) p ps f r all = direct_step c t p ps f r all
  does_step (Virtual c g) p ps f r all = virtual_step c g p ps f r all
  does_step (OutsideDirect c) p ps f r all = let k = if_some _ (slice_get s.calls c.0) r in outside_step c p k.0 k.1 ps f k.2 all

  constraint_step : (c : Constraint) → Contains s.constraints c → IsStep (Constrains s c)
  constraint_step c inside ps f (inl (root, r)) all = does_step c.rule (c.method, inside, inl root) ps f r all
  constraint_step c inside _ f (inr (under {ps} r)) all = does_step c.rule (c.method, inside, inr all.0) ps f r all.1

  -- ---- calls
  module _ (c : CallId) (k : CallSite) (at : IsCallSite s c k) where
    passed : (t : ℕ) → K (Calls c (method t)) → (m : MethodVars) → slice_get s.methods t ≡ Some m → (i : ℕ) → (IsReceiver k.instance i → ⊥)
        → (v : Var) → slice_get k.arguments i ≡ Some v → (w : Var) → slice_get m.formals i ≡ Some w → IsStep (Flows (Variable v) (Variable w))
    passed t h m inside i further v arg w formal _ _ (flows {n}) all = passes h at inside further (v, arg, all.0) formal

    answered : (t : ℕ) → K (Calls c (method t)) → (m : MethodVars) → slice_get s.methods t ≡ Some m
        → (v : Var) → m.result ≡ Some v → (w : Var) → k.result ≡ Some w → IsStep (Flows (Variable v) (Variable w))
    answered t h m inside v from w to _ _ (flows {n}) all = answers h at inside from to all.0

    thrown : (t : ℕ) → K (Calls c (method t)) → (m : MethodVars) → slice_get s.methods t ≡ Some m → IsStep (Flows (Variable m.thrown) (Variable k.exception))
    thrown t h m inside _ _ (flows {n}) all = throws h at inside all.0

    bound : (t : ℕ) → K (Calls c (method t)) → (m : MethodVars) → slice_get s.methods t ≡ Some m → IsStep (Binds k m)
    bound t h m inside ps f (inl (i, lt, (further, r))) all =
        let a = if_some _ (slice_get k.arguments i) r in
        let b = if_some _ (slice_get m.formals i) a.2 in
        passed t h m inside i further a.0 a.1 b.0 b.1 ps f b.2 all
    bound t h m inside ps f (inr (inl r)) all =
        let a = if_some _ m.result r in
        let b = if_some _ k.result a.2 in
        answered t h m inside a.0 a.1 b.0 b.1 ps f b.2 all
    bound t h m inside ps f (inr (inr r)) all = thrown t h m inside ps f r all

    joined : IsStep (Each (Targets c) (Joins s k))
    joined _ f (each {n} {ps} r) all = let m = if_some _ (slice_get s.methods n) r in bound n all.0 m.0 m.1 ps f m.2 all.1

    -- ---- outside
    module _ (o : Option SiteId) (out : K (OutsideAt c o)) where
      freshened : (v : Var) → k.result ≡ Some v → (h : SiteId) → k.fresh ≡ Some h → IsStep (Adds (Variable v) h.0)
      freshened v e h e' _ _ adds all = fresh out at e e'

      fresh_step : IsStep (Freshens k)
      fresh_step ps f r all = let a = if_some _ k.result r in let b = if_some _ k.fresh a.2 in freshened a.0 a.1 b.0 b.1 ps f b.2 all

      module _ (r : OutsideRule) (rule : slice_get s.outside_rules c.0 ≡ Some r) where
        may_be : (i : ℕ) (p : Place) (n : ℕ) → IsArgumentPlace c k i p → Means s K (At p n) → OutsideArgument K c k.instance r (ArgumentHas s K k) (IsState s) i (site n)
        may_be i p n (inl (is, e)) m = inl (is, subst (λ q. Means s K (At q n)) e m)
        may_be i p n (inr (further, (a, arg, e))) m = inr (further, (o, out), (a, arg, subst (λ q. Means s K (At q n)) e m))

        -- what arguments and their states give
        abbrev Given : Place → List ℕ → Item → Type 0
        Given q is f = (n : ℕ) × (f ≡ At q n) × Gives K c k.instance r (ArgumentHas s K k) (IsState s) is (site n)

        state_given : (q : Place) (is : List ℕ) (b : ℕ) → OneMayBe K c k.instance r (ArgumentHas s K k) (IsState s) is (site b) → (g : FieldId) → IsState s (site b) g
            → (ps : List Item) (f : Item) → Flows (Cell (site b) g) q ps f → AllOf (Means s K) ps → Given q is f
        state_given q is b one g state _ _ (flows {n}) all = (n, refl, inr (site b, g, one, state, all.0))

        both_given : (q : Place) (is : List ℕ) (i : ℕ) → Contains is i → (p : Place) → IsArgumentPlace c k i p → (ps : List Item) (f : Item) → Both s q p ps f → AllOf (Means s K) ps → Given q is f
        both_given q is i inside p place _ _ (inl (flows {n})) all = (n, refl, inl (i, inside, may_be i p n place all.0))
        both_given q is i inside p place _ f (inr (each {n} {ps} x)) all =
            let g = if_some _ (state_of s n) x in
            state_given q is n (i, inside, may_be i p n place all.0) g.0 (state_found s n g.0 g.1) ps f g.2 all.1

        given : (q : Place) (is : List ℕ) (ps : List Item) (f : Item) → BothArguments s c k q is ps f → AllOf (Means s K) ps → Given q is f
        given q is ps f (i, inside, (p, place, x)) all = both_given q is i inside p place ps f x all

        answer_step : IsStep (Answers s c k r)
        answer_step ps f x all =
            let a = if_some _ k.result x in
            let b = if_some _ k.fresh a.2 in
            let g = given (Variable a.0) r.reads ps f b.2 all in
            subst Step (sym g.1) (gives at rule a.1 b.1 g.2)

        write_step : IsStep (BothArguments s c k (Written c) r.written)
        write_step ps f x all = let g = given (Written c) r.written ps f x all in subst Step (sym g.1) (k, r, at, rule, g.2)

        -- what the call writes is given by its own arguments
        own : (n : ℕ) → IsWrittenBy s K c n → Gives K c k.instance r (ArgumentHas s K k) (IsState s) r.written (site n)
        own n w =
            let same_call : w.0 ≡ k = some_is w.0 k (sym w.2 ∙ at) in
            let same_rule : w.1 ≡ r = some_is w.1 r (sym w.3 ∙ rule) in
            subst (λ (x : CallSite). Gives K c x.instance r (ArgumentHas s K x) (IsState s) r.written (site n)) same_call
            (subst (λ (y : OutsideRule). Gives K c w.0.instance y (ArgumentHas s K w.0) (IsState s) y.written (site n)) same_rule w.4)

        filled : (b : ℕ) (g : FieldId) → (OneMayBe K c k.instance r (ArgumentHas s K k) (IsState s) r.states (site b) × IsState s (site b) g) ⊎ (OneMayBe K c k.instance r (ArgumentHas s K k) (IsState s) r.arrays (site b) × IsElements s (site b) g)
            → IsStep (Flows (Written c) (Cell (site b) g))
        filled b g w _ _ (flows {n}) all = writes at rule w (own n all.0)

        states_each : (i : ℕ) → Contains r.states i → (p : Place) → IsArgumentPlace c k i p → IsStep (Each p (λ b. IfSome (λ g. Flows (Written c) (Cell (site b) g)) (state_of s b)))
        states_each i inside p place _ f (each {n} {ps} x) all =
            let g = if_some _ (state_of s n) x in
            filled n g.0 (inl ((i, inside, may_be i p n place all.0), state_found s n g.0 g.1)) ps f g.2 all.1

        arrays_each : (i : ℕ) → Contains r.arrays i → (p : Place) → IsArgumentPlace c k i p → IsStep (Each p (λ b. IfSome (λ g. Flows (Written c) (Cell (site b) g)) (elements_of s b)))
        arrays_each i inside p place _ f (each {n} {ps} x) all =
            let g = if_some _ (elements_of s n) x in
            filled n g.0 (inr ((i, inside, may_be i p n place all.0), elements_found s n g.0 g.1)) ps f g.2 all.1

        rule_step : IsStep (OutsideDoes s c k r)
        rule_step ps f (inl x) all = answer_step ps f x all
        rule_step ps f (inr (inl x)) all = write_step ps f x all
        rule_step ps f (inr (inr (inl (i, inside, (p, place, x))))) all = states_each i inside p place ps f x all
        rule_step ps f (inr (inr (inr (i, inside, (p, place, x))))) all = arrays_each i inside p place ps f x all

      out_step : IsStep (Or (Freshens k) (IfSome (OutsideDoes s c k) (slice_get s.outside_rules c.0)))
      out_step ps f (inl x) all = fresh_step ps f x all
      out_step ps f (inr x) all = let r = if_some _ (slice_get s.outside_rules c.0) x in rule_step r.0 r.1 ps f r.2 all

    call_step : IsStep (CallDoes s c k)
    call_step ps f (inl x) all = joined ps f x all
    call_step _ f (inr (inl (each {n} {ps} x))) all = out_step (Some (site n)) all.0 ps f x all.1
    call_step _ f (inr (inr (under {ps} x))) all = out_step None all.0 ps f x all.1

  pub all_step : IsStep (Follows s)
  all_step ps f (inl (c, inside, r)) all = constraint_step c inside ps f r all
  all_step ps f (inr (c, lt, r)) all = let k = if_some _ (slice_get s.calls c) r in call_step (call c) k.0 k.1 ps f k.2 all

meant : (s : System) (fs : List SystemFact) → IsDerivation (SystemFollows s) fs → (f : Item) → Step s (Contains fs) f → MeansTrue s f
meant s fs d (At (Variable v) n) h = derived s fs (Has v (site n)) d h
meant s fs d (At (Cell o f) n) h = derived s fs (Holds o f (site n)) d h
meant s fs d (At (Targets c) n) h = derived s fs (Calls c (method n)) d h
meant s fs d (At (Receivers c) n) h = derived s fs (OutsideAt c (Some (site n))) d h
meant s fs d (At (Static c) n) h = derived s fs (OutsideAt c None) d h
meant s fs d (At (Written c) n) h = means_wider s (Contains fs) (SystemHolds s) (in_derivation s fs d) (At (Written c) n) h
meant s fs d (At Running n) h = derived s fs (Reached (method n)) d h

-- what follows from true items is true
pub true_closed : (s : System) → IsClosed (Follows s) (MeansTrue s)
true_closed s = λ ps f r all. let h = all_finite s ps all in meant s h.0 h.1 f (all_step s (Contains h.0) ps f r h.2)
