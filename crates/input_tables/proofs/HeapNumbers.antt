-- The definitions and uses that are gathered are those of the program, by number.
use Rattle.std.proofs.Common.{◌≡◌, ◌⊎◌, ◌↔◌, ◌<◌, ◌≤◌, ◌+◌, ◌-◌, ℕ, Bool, true, false, List, Contains, length, Option, Some, inl, inr, refl, sym, ap, subst, ◌∙◌, arith}
use Rattle.std.specs.Prelude.{slice_get}
use Rattle.std.proofs.lemmas.Option.{same_Some, slice_get_within}
use Rattle.slicer_ids.specs.Sets.{IsOrderedListOf}
use Rattle.slicer_ids.specs.declared.ids.CallId.{CallId}
use Rattle.slicer_ids.specs.declared.ids.LocId.{LocId}
use Rattle.slicer_ids.specs.declared.ids.MethodId.{MethodId}
use Rattle.slicer_ids.specs.declared.ids.NodeId.{NodeId}
use Rattle.slicer_ids.specs.declared.ids.SiteId.{SiteId}
use Rattle.slicer_ids.specs.declared.ids.Statement.{Statement}
use Rattle.class_form.specs.declared.body.Body.{Body}
use Rattle.class_form.specs.declared.body.Point.{Point}
use Rattle.class_form.proofs.Indices.{there_at}
use Rattle.std.proofs.lemmas.List.Elements.{All-contains}
use Rattle.dep_form.specs.declared.call_site.CallSite.{CallSite}
use Rattle.dep_form.specs.declared.effects.Location.{Location}
use Rattle.dep_form.specs.declared.effects.Location.TheVariants.{Cell}
use Rattle.dep_form.specs.declared.effects.ModRef.{ModRef}
use Rattle.dep_form.specs.declared.node.Node.{Node}
use Rattle.dep_form.specs.declared.node.Node.TheVariants.{Own, Result, HeapArg, HeapResult}
use Rattle.dep_form.specs.declared.rules.OutsideRule.{OutsideRule}
use Rattle.dep_form.specs.declared.rules.Touch.{Touch}
use Rattle.dep_form.specs.declared.system.System.{System}
use Rattle.dep_form.specs.Constraints.{ArgumentHas, IsCallSite, IsState, SystemHolds, elements_field, length_field}
use Rattle.dep_form.specs.Nodes.{ComesBefore}
use Rattle.dep_form.specs.PointsTo.{OneMayBe, OutsideAt}
use Rattle.program_form.specs.Nodes.{at}
use Rattle.program_form.specs.Programs.{Program}
use Rattle.program_form.specs.Systems.{IsCallOf}
use Rattle.fact_form.specs.EffectNumbers.{DefinesNumber, IsLocation, UsesNumber}
use Rattle.fact_form.specs.EffectNumbers as number
use Rattle.fact_form.specs.FactTables.{IsPointAt}
use Rattle.fact_form.specs.NodeNumbers.{IsNumbered}
use Rattle.mod_ref.proofs.Passing.{elements_is, state_is}
use Rattle.worklists.specs.Growth.{FromOne}
use Rattle.worklists.proofs.Growing.{FromBelow}
use Rattle.input_tables.specs.declared.effects.Effect.{Effect}
use Rattle.input_tables.specs.declared.uses.Use.{Use}
use Rattle.input_tables.specs.declared.outside.Way.TheVariants.{Writes, Copies, Reads}
use Rattle.input_tables.specs.Control.{ArePointsOf, StandsAt}
use Rattle.input_tables.specs.Effects.{AreEffects, AtLocation, AtNumber, AtTouch, IsFresh, IsGet, IsOutside, IsPut, IsRead, call_of, effect}
use Rattle.input_tables.specs.Uses.{AreGetsOf, ArePutsOf, AreUsesOf, IsAnyUse, IsGetAt, IsNodeIn, IsPutAt, IsUseAt, callee_node, node_at, use_of}

module _ (p : Program) (s : System) (mr : ModRef) (entries : List MethodId) where
  -- ---- by touches
  located : (t : Statement) (l : Location) (x : Effect) → AtLocation mr t l x → (x.at ≡ t) × IsLocation mr x.location l
  located t l x (n, is, e) = (ap (λ (y : Effect). y.at) e, subst (λ (z : LocId). IsLocation mr z l) (sym (ap (λ (y : Effect). y.location) e)) is)

  touch_made : (u : Touch) (write : Bool) → u.write ≡ write → u ≡ record { place = u.place; write = write; spot = u.spot }
  touch_made u write e = rw (← e) refl

  put_touched : (x : Effect) → FromOne (AtTouch s mr true) s.touches x → DefinesNumber p s mr entries x.at.method x.at.pc x.location (Own x.at.pc)
  put_touched x (u, c, (w, (l, spot, here))) =
      let h = located u.place l x here in
      subst (λ (t : Statement). DefinesNumber p s mr entries t.method t.pc x.location (Own t.pc)) (sym h.0)
      (number.by_touch u.spot h.1 (subst (Contains s.touches) (touch_made u true w) c) spot)

  get_touched : (x : Effect) → FromOne (AtTouch s mr false) s.touches x → UsesNumber p s mr entries x.at.method x.at.pc x.location (Own x.at.pc)
  get_touched x (u, c, (w, (l, spot, here))) =
      let h = located u.place l x here in
      subst (λ (t : Statement). UsesNumber p s mr entries t.method t.pc x.location (Own t.pc)) (sym h.0)
      (number.by_touch u.spot h.1 (subst (Contains s.touches) (touch_made u false w) c) spot)

  -- ---- by calls
  is_call : (c : CallId) (k : CallSite) (r : OutsideRule) (t : Statement) → IsOutside s c k r t → IsCallOf s (at t.method t.pc) c k
  is_call c k r t is = (is.site, is.place)

  put_called : (x : Effect) → FromBelow (AtNumber s mr Writes) (length s.calls) x → DefinesNumber p s mr entries x.at.method x.at.pc x.location (Own x.at.pc)
  put_called x (n, lt, (k, r, t, is, inl (i, c, (h, may, (f, field, here))))) =
      let a = located t (Cell h f) x here in
      subst (λ (u : Statement). DefinesNumber p s mr entries u.method u.pc x.location (Own u.pc)) (sym a.0)
      (number.by_call (call_of n) a.1 (is_call (call_of n) k r t is) is.rule (inl ((i, c, may), (state_is s h f).0 field)))
  put_called x (n, lt, (k, r, t, is, inr (i, c, (h, may, (f, field, here))))) =
      let a = located t (Cell h f) x here in
      subst (λ (u : Statement). DefinesNumber p s mr entries u.method u.pc x.location (Own u.pc)) (sym a.0)
      (number.by_call (call_of n) a.1 (is_call (call_of n) k r t is) is.rule (inr ((i, c, may), (elements_is s h f).0 field)))

  get_called : (x : Effect) → FromBelow (AtNumber s mr Copies) (length s.calls) x → UsesNumber p s mr entries x.at.method x.at.pc x.location (Own x.at.pc)
  get_called x (n, lt, (k, r, t, is, (i, c, (h, may, (f, field, here))))) =
      let a = located t (Cell h f) x here in
      subst (λ (u : Statement). UsesNumber p s mr entries u.method u.pc x.location (Own u.pc)) (sym a.0)
      (number.by_call (call_of n) a.1 (is_call (call_of n) k r t is) is.rule (i, c, may) ((state_is s h f).0 field))

  pub read_called : (x : Effect) → IsRead s mr x → UsesNumber p s mr entries x.at.method x.at.pc x.location (Result x.at.pc)
  read_called x (n, lt, (k, r, t, is, (i, c, (h, may, (f, field, here))))) =
      let a = located t (Cell h f) x here in
      subst (λ (u : Statement). UsesNumber p s mr entries u.method u.pc x.location (Result u.pc)) (sym a.0)
      (number.by_result (call_of n) a.1 (is_call (call_of n) k r t is) is.rule ((i, c, may), (state_is s h f).0 field))

  same_fresh : (k l : CallSite) (first : SiteId) (i : ℕ) → slice_get s.calls i ≡ Some k → slice_get s.calls i ≡ Some l → l.fresh ≡ Some first → k.fresh ≡ Some first
  same_fresh k l first i at there e = ap (λ (y : CallSite). y.fresh) (same_Some k l (sym at ∙ there)) ∙ e

  pub fresh_defines : (x : Effect) → IsFresh s mr x → DefinesNumber p s mr entries x.at.method x.at.pc x.location (Result x.at.pc)
  fresh_defines x (n, lt, (info, site, (t, array, place, (c, (k, there, stands), (((l, first, here, fresh), (o, gone)), inl a))))) =
      let h = located t (Cell (record { 0 = n }) (length_field s)) x a in
      subst (λ (u : Statement). DefinesNumber p s mr entries u.method u.pc x.location (Result u.pc)) (sym h.0)
      (number.by_result o h.1 (there, stands) gone (same_fresh k l first c.0 there here fresh) site (place ∙ sym stands) array (inl refl))
  fresh_defines x (n, lt, (info, site, (t, array, place, (c, (k, there, stands), (((l, first, here, fresh), (o, gone)), inr a))))) =
      let h = located t (Cell (record { 0 = n }) (elements_field s)) x a in
      subst (λ (u : Statement). DefinesNumber p s mr entries u.method u.pc x.location (Result u.pc)) (sym h.0)
      (number.by_result o h.1 (there, stands) gone (same_fresh k l first c.0 there here fresh) site (place ∙ sym stands) array (inr refl))

  pub put_defines : (x : Effect) → IsPut s mr x → DefinesNumber p s mr entries x.at.method x.at.pc x.location (Own x.at.pc)
  put_defines x (inl h) = put_touched x h
  put_defines x (inr h) = put_called x h

  pub get_uses : (x : Effect) → IsGet s mr x → UsesNumber p s mr entries x.at.method x.at.pc x.location (Own x.at.pc)
  get_uses x (inl h) = get_touched x h
  get_uses x (inr h) = get_called x h

  -- ---- and back
  module _ (m : MethodId) (pc : ℕ) (n : LocId) where
    abbrev here : Effect
    here = effect (at m pc) n

    gone_by : (c : CallId) (k : CallSite) (r : OutsideRule) (is : List ℕ) (b : SiteId) → OneMayBe (SystemHolds s) c k.instance r (ArgumentHas s (SystemHolds s) k) (IsState s) is b → (o : Option SiteId) × SystemHolds s (OutsideAt c o)
    gone_by c k r is b (i, c', inl q) = (Some b, q.1)
    gone_by c k r is b (i, c', inr q) = q.1

    outside : (c : CallId) (k : CallSite) (r : OutsideRule) → IsCallOf s (at m pc) c k → slice_get s.outside_rules c.0 ≡ Some r → (o : Option SiteId) × SystemHolds s (OutsideAt c o) → IsOutside s c k r (at m pc)
    outside c k r is rule gone = record { site = is.0; rule = rule; place = is.1; gone = gone }

    pub defines_cases : (k : Node) → DefinesNumber p s mr entries m pc n k → ((k ≡ Own pc) × IsPut s mr here) ⊎ (((k ≡ Result pc) × IsFresh s mr here) ⊎ (k ≡ HeapResult pc n))
    defines_cases _ (number.by_touch {x} spot is c stands) = inl (refl, inl (record { place = at m pc; write = true; spot = spot }, c, (refl, (x, stands, (n, is, refl)))))
    defines_cases _ (number.by_call c {k} {r} {b} {f} is site rule (inl ((i, there, may), state))) =
        inl (refl, inr (c.0, slice_get_within s.calls c.0 k site.0, (k, r, at m pc, outside c k r site rule (gone_by c k r r.states b (i, there, may)), inl (i, there, (b, may, (f, (state_is s b f).1 state, (n, is, refl)))))))
    defines_cases _ (number.by_call c {k} {r} {b} {f} is site rule (inr ((i, there, may), elements))) =
        inl (refl, inr (c.0, slice_get_within s.calls c.0 k site.0, (k, r, at m pc, outside c k r site rule (gone_by c k r r.arrays b (i, there, may)), inr (i, there, (b, may, (f, (elements_is s b f).1 elements, (n, is, refl)))))))
    defines_cases _ (number.by_result {c} {k} o {first} {h} {f} {info} is site gone fresh at_site place array (inl e)) =
        inr (inl (refl, (h.0, slice_get_within s.sites h.0 info at_site, (info, at_site, (at m pc, array, place ∙ site.1, (c, (k, site.0, site.1), (((k, first, site.0, fresh), (o, gone)), inl (n, subst (λ g. IsLocation mr n (Cell h g)) e is, refl))))))))
    defines_cases _ (number.by_result {c} {k} o {first} {h} {f} {info} is site gone fresh at_site place array (inr e)) =
        inr (inl (refl, (h.0, slice_get_within s.sites h.0 info at_site, (info, at_site, (at m pc, array, place ∙ site.1, (c, (k, site.0, site.1), (((k, first, site.0, fresh), (o, gone)), inr (n, subst (λ g. IsLocation mr n (Cell h g)) e is, refl))))))))
    defines_cases _ (number.by_callee is) = inr (inr refl)

    pub uses_cases : (k : Node) → UsesNumber p s mr entries m pc n k → ((k ≡ Own pc) × IsGet s mr here) ⊎ (((k ≡ Result pc) × IsRead s mr here) ⊎ (k ≡ HeapArg pc n))
    uses_cases _ (number.by_touch {x} spot is c stands) = inl (refl, inl (record { place = at m pc; write = false; spot = spot }, c, (refl, (x, stands, (n, is, refl)))))
    uses_cases _ (number.by_call c {k} {r} {b} {f} is site rule (i, there, may) state) =
        inl (refl, inr (c.0, slice_get_within s.calls c.0 k site.0, (k, r, at m pc, outside c k r site rule (gone_by c k r r.written b (i, there, may)), (i, there, (b, may, (f, (state_is s b f).1 state, (n, is, refl)))))))
    uses_cases _ (number.by_result c {k} {r} {b} {f} is site rule ((i, there, may), state)) =
        inr (inl (refl, (c.0, slice_get_within s.calls c.0 k site.0, (k, r, at m pc, outside c k r site rule (gone_by c k r r.reads b (i, there, may)), (i, there, (b, may, (f, (state_is s b f).1 state, (n, is, refl))))))))
    uses_cases _ (number.by_callee is) = inr (inr refl)

-- ---- of one method
module _ (bodies : List Body) (m : MethodId) (first : ℕ) (row : List Node) (points : List Point) (stand : ArePointsOf bodies m points) (p : Program) (same : p.bodies ≡ bodies) where
  -- a use at a point, by its number
  module _ (q : ℕ) (x : NodeId) (n : LocId) where
    at_point : (pc : ℕ) (k : Node) (l : LocId) → IsUseAt points first row pc k l (use_of q x.0 n) → IsPointAt p m q pc × IsNodeIn first row x k × (n ≡ l)
    at_point pc k l (r, i, stands, there, e) =
        let point : q ≡ r = ap (λ (y : Use). y.point) e in
        let node : x.0 ≡ first + i = ap (λ (y : Use). y.node.0) e in
        let place : i ≡ x.0 - first = omega (arith, node) in (
          (stand.stand p same q pc).0 (subst (λ z. StandsAt points z pc) (sym point) stands),
          (omega (arith, node), subst (λ z. slice_get row z ≡ Some k) place there),
          ap (λ (y : Use). y.location) e,
        )

    to_point : (pc : ℕ) (k : Node) → IsPointAt p m q pc → IsNodeIn first row x k → IsUseAt points first row pc k n (use_of q x.0 n)
    to_point pc k point node =
        let e : x.0 ≡ first + (x.0 - first) = omega (arith, node.0) in
        (q, x.0 - first, (stand.stand p same q pc).1 point, node.1, ap (λ z. use_of q z n) e)

    -- a list of effects of the method, and what each of them means
    module _ (Means : MethodId → ℕ → LocId → Node → Type 0) (answered : Bool) (all own : List Effect) (P : Effect → Type 0) (are : AreEffects P all) (of : (e : Effect) → Contains own e ↔ (Contains all e × (e.at.method.0 ≡ m.0)))
        (means : (e : Effect) → P e → Means e.at.method e.at.pc e.location (node_at answered e.at.pc)) where
      effect_to : FromOne (λ (e : Effect) (y : Use). IsUseAt points first row e.at.pc (node_at answered e.at.pc) e.location y) own (use_of q x.0 n)
          → (pc : ℕ) × (k : Node) × IsPointAt p m q pc × IsNodeIn first row x k × Means m pc n k
      effect_to (e, c, here) =
          let a = at_point e.at.pc (node_at answered e.at.pc) e.location here in
          let w = (of e).0 c in
          let method : e.at.method ≡ m = ap (λ (z : ℕ). record { 0 = z }) w.1 in
          (e.at.pc, node_at answered e.at.pc, a.0, a.1, subst (λ (l : LocId). Means m e.at.pc l (node_at answered e.at.pc)) (sym a.2) (subst (λ (z : MethodId). Means z e.at.pc e.location (node_at answered e.at.pc)) method (means e ((are.members e).0 w.0))))

      effect_from : (pc : ℕ) (k : Node) → k ≡ node_at answered pc → P (effect (at m pc) n) → IsPointAt p m q pc → IsNodeIn first row x k
          → FromOne (λ (e : Effect) (y : Use). IsUseAt points first row e.at.pc (node_at answered e.at.pc) e.location y) own (use_of q x.0 n)
      effect_from pc k is h point node = (effect (at m pc) n, (of (effect (at m pc) n)).1 ((are.members (effect (at m pc) n)).1 h, refl), to_point pc (node_at answered pc) point (subst (IsNodeIn first row x) is node))

    callee_from : (write : Bool) (pc : ℕ) (k : Node) → k ≡ callee_node write pc n → IsPointAt p m q pc → IsNodeIn first row x k
        → FromOne (λ (k : Node) (y : Use). (pc : ℕ) × (n : LocId) × (k ≡ callee_node write pc n) × IsUseAt points first row pc k n y) row (use_of q x.0 n)
    callee_from write pc k is point node = (k, there_at row (x.0 - first) k node.1, (pc, n, is, to_point pc k point node))

module _ (s : System) (mr : ModRef) (bodies : List Body) (m : MethodId) (first : ℕ) (row : List Node) where
  module _ (puts fresh own results : List Effect) (puts_is : AreEffects (IsPut s mr) puts) (fresh_is : AreEffects (IsFresh s mr) fresh)
      (of_own : (e : Effect) → Contains own e ↔ (Contains puts e × (e.at.method.0 ≡ m.0))) (of_results : (e : Effect) → Contains results e ↔ (Contains fresh e × (e.at.method.0 ≡ m.0)))
      (v : List (ℕ × NodeId × LocId)) where
    pub puts_are : AreUsesOf bodies m first row true own results v → ArePutsOf bodies s mr m first row v
    puts_are (points, stand, is) p entries same listed q x n = (λ c. to ((is q x n).0 c), λ (pc, k, point, node, d). (is q x n).1 (from pc k point node (defines_cases p s mr entries m pc n k d)))
      where
        to : IsAnyUse points first row true own results (use_of q x.0 n) → IsPutAt p s mr entries m first row q x n
        to (inl f) = effect_to bodies m first row points stand p same q x n (λ z. DefinesNumber p s mr entries z) false puts own (IsPut s mr) puts_is of_own (put_defines p s mr entries) f
        to (inr (inl f)) = effect_to bodies m first row points stand p same q x n (λ z. DefinesNumber p s mr entries z) true fresh results (IsFresh s mr) fresh_is of_results (fresh_defines p s mr entries) f
        to (inr (inr (k, c, (pc, l, e, here)))) =
            let a = at_point bodies m first row points stand p same q x n pc k l here in
            let numbered : IsNumbered p s mr entries m (HeapResult pc n) = subst (λ (z : LocId). IsNumbered p s mr entries m (HeapResult pc z)) (sym a.2) (subst (IsNumbered p s mr entries m) e (All-contains (IsNumbered p s mr entries m) row k listed.each c)) in
            let node : k ≡ HeapResult pc n = e ∙ ap (λ (z : LocId). HeapResult pc z) (sym a.2) in
            (pc, k, a.0, a.1, subst (DefinesNumber p s mr entries m pc n) (sym node) (number.by_callee numbered))

        from : (pc : ℕ) (k : Node) → IsPointAt p m q pc → IsNodeIn first row x k → ((k ≡ Own pc) × IsPut s mr (effect (at m pc) n)) ⊎ (((k ≡ Result pc) × IsFresh s mr (effect (at m pc) n)) ⊎ (k ≡ HeapResult pc n))
            → IsAnyUse points first row true own results (use_of q x.0 n)
        from pc k point node (inl (e, h)) = inl (effect_from bodies m first row points stand p same q x n (λ z. DefinesNumber p s mr entries z) false puts own (IsPut s mr) puts_is of_own (put_defines p s mr entries) pc k e h point node)
        from pc k point node (inr (inl (e, h))) = inr (inl (effect_from bodies m first row points stand p same q x n (λ z. DefinesNumber p s mr entries z) true fresh results (IsFresh s mr) fresh_is of_results (fresh_defines p s mr entries) pc k e h point node))
        from pc k point node (inr (inr e)) = inr (inr (callee_from bodies m first row points stand p same q x n true pc k e point node))

  module _ (gets reads own results : List Effect) (gets_is : AreEffects (IsGet s mr) gets) (reads_is : AreEffects (IsRead s mr) reads)
      (of_own : (e : Effect) → Contains own e ↔ (Contains gets e × (e.at.method.0 ≡ m.0))) (of_results : (e : Effect) → Contains results e ↔ (Contains reads e × (e.at.method.0 ≡ m.0)))
      (v : List (ℕ × NodeId × LocId)) where
    pub gets_are : AreUsesOf bodies m first row false own results v → AreGetsOf bodies s mr m first row v
    gets_are (points, stand, is) p entries same listed q x n = (λ c. to ((is q x n).0 c), λ (pc, k, point, node, d). (is q x n).1 (from pc k point node (uses_cases p s mr entries m pc n k d)))
      where
        to : IsAnyUse points first row false own results (use_of q x.0 n) → IsGetAt p s mr entries m first row q x n
        to (inl f) = effect_to bodies m first row points stand p same q x n (λ z. UsesNumber p s mr entries z) false gets own (IsGet s mr) gets_is of_own (get_uses p s mr entries) f
        to (inr (inl f)) = effect_to bodies m first row points stand p same q x n (λ z. UsesNumber p s mr entries z) true reads results (IsRead s mr) reads_is of_results (read_called p s mr entries) f
        to (inr (inr (k, c, (pc, l, e, here)))) =
            let a = at_point bodies m first row points stand p same q x n pc k l here in
            let numbered : IsNumbered p s mr entries m (HeapArg pc n) = subst (λ (z : LocId). IsNumbered p s mr entries m (HeapArg pc z)) (sym a.2) (subst (IsNumbered p s mr entries m) e (All-contains (IsNumbered p s mr entries m) row k listed.each c)) in
            let node : k ≡ HeapArg pc n = e ∙ ap (λ (z : LocId). HeapArg pc z) (sym a.2) in
            (pc, k, a.0, a.1, subst (UsesNumber p s mr entries m pc n) (sym node) (number.by_callee numbered))

        from : (pc : ℕ) (k : Node) → IsPointAt p m q pc → IsNodeIn first row x k → ((k ≡ Own pc) × IsGet s mr (effect (at m pc) n)) ⊎ (((k ≡ Result pc) × IsRead s mr (effect (at m pc) n)) ⊎ (k ≡ HeapArg pc n))
            → IsAnyUse points first row false own results (use_of q x.0 n)
        from pc k point node (inl (e, h)) = inl (effect_from bodies m first row points stand p same q x n (λ z. UsesNumber p s mr entries z) false gets own (IsGet s mr) gets_is of_own (get_uses p s mr entries) pc k e h point node)
        from pc k point node (inr (inl (e, h))) = inr (inl (effect_from bodies m first row points stand p same q x n (λ z. UsesNumber p s mr entries z) true reads results (IsRead s mr) reads_is of_results (read_called p s mr entries) pc k e h point node))
        from pc k point node (inr (inr e)) = inr (inr (callee_from bodies m first row points stand p same q x n false pc k e point node))
