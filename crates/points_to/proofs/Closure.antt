-- Each rule of the system is one over items: a set of items that is closed under those has what follows from its facts.
use Rattle.std.proofs.Common.{◌≡◌, ◌⊎◌, ℕ, Bool, true, false, List, [], ◌∷◌, Option, Some, None, Contains, length, slice_get, inl, inr, refl, sym, subst, ◌∙◌}
use Rattle.std.proofs.lemmas.Option.{slice_get_within}
use Rattle.slicer_ids.specs.declared.ids.CallId.{CallId}
use Rattle.slicer_ids.specs.declared.ids.ClassId.{ClassId}
use Rattle.slicer_ids.specs.declared.ids.FieldId.{FieldId}
use Rattle.slicer_ids.specs.declared.ids.MethodId.{MethodId}
use Rattle.slicer_ids.specs.declared.ids.SiteId.{SiteId}
use Rattle.dep_form.specs.declared.call_site.CallSite.{CallSite}
use Rattle.dep_form.specs.declared.rules.MethodVars.{MethodVars}
use Rattle.dep_form.specs.declared.rules.OutsideRule.{OutsideRule}
use Rattle.dep_form.specs.declared.rules.Rule.{Rule}
use Rattle.dep_form.specs.declared.rules.Rule.TheVariants.{Enter, Alloc, Hold, Copy, Load, Store, Direct, Virtual, OutsideDirect}
use Rattle.dep_form.specs.declared.rules.Var.{Var}
use Rattle.dep_form.specs.declared.system.System.{System}
use Rattle.dep_form.specs.Outside.{IsReceiver}
use Rattle.dep_form.specs.PointsTo.{Has, Cell as Holds, Calls, OutsideAt, Reached, OneMayBe, OutsideArgument, Gives, Writes}
use Rattle.dep_form.specs.Constraints.{SystemFact, SystemFollows, InForce as IsInForce, IsCallSite, IsMethodVars, ArgumentHas, ReceiverHas, IsState, IsElements, Passes, SelectsMethod, SelectsOutside, elements_field, enter, alloc, hold, copy, load, store, direct_calls, direct_enters, direct_receives, virtual_calls, virtual_enters, virtual_receives, virtual_outside, outside_static, outside_special, passes, answers, throws, fresh, gives, writes}
use Rattle.points_to.specs.declared.place.Place.{Place}
use Rattle.points_to.specs.declared.place.Place.TheVariants.{Variable, Cell, Targets, Receivers, Static, Written, Running}
use Rattle.points_to.specs.Items.{Item, At, AllOf, IsClosed, Adds, adds, Flows, flows, Filters, filters, Each, each, Under, under, IfSome, Or}
use Rattle.points_to.specs.Rules.{site, method, call, receiver_at, formal_at, receiver_of, state_of, elements_of, FlowsSome, Selects, Chooses, GoesOutside, Does, Binds, Joins, Both, BothArguments, IsArgumentPlace, Answers, Fills, OutsideDoes, Freshens, CallDoes, Follows}
use Rattle.points_to.specs.Meaning.{coded}
use Rattle.points_to.proofs.Looking.{of_some, found_receiver, found_receiver_at, found_formal, found_state, found_elements}

module _ (s : System) (P : Item → Type 0) (closed : IsClosed (Follows s) P) where
  abbrev K : SystemFact → Type 0
  K f = P (coded f)

  in_force : (r : Rule) → IsInForce s K r → IsClosed (Does s r) P
  in_force r (m, inside, inl root) = λ ps f d all. closed ps f (inl (record { method = m; rule = r }, inside, inl (root, d))) all
  in_force r (m, inside, inr k) = λ ps f d all. closed (At Running m.0 ∷ ps) f (inl (record { method = m; rule = r }, inside, inr (under d))) (k, all)

  calling : (c : CallId) (k : CallSite) → IsCallSite s c k → IsClosed (CallDoes s c k) P
  calling c k at = λ ps f d all. closed ps f (inr (c.0, slice_get_within s.calls c.0 k at, of_some (CallDoes s c) (slice_get s.calls c.0) k at d)) all

  copied : (v w : Var) (keep : Option ClassId) (h : SiteId) → IsInForce s K (Copy v w keep) → P (At (Variable v) h.0) → Passes s keep h → P (At (Variable w) h.0)
  copied v w None h p x e = in_force (Copy v w None) p (At (Variable v) h.0 ∷ []) _ flows (x, tt)
  copied v w (Some c) h p x e = in_force (Copy v w (Some c)) p (At (Variable v) h.0 ∷ []) _ (filters e) (x, tt)

  -- ---- a virtual call at a receiver
  chosen : (c : CallId) (g : ℕ) (k : CallSite) (h : SiteId) → IsInForce s K (Virtual c g) → IsCallSite s c k → ReceiverHas s K k h → IsClosed (Chooses s c g h.0) P
  chosen c g k h p at x = λ ps f d all. in_force (Virtual c g) p (At (Variable x.1.0) h.0 ∷ ps) f
      (of_some (λ v. Each (Variable v) (Chooses s c g)) (receiver_at s c) x.1.0 (found_receiver_at s c k x.1.0 at x.0 x.1.1) (each d)) (x.1.2, all)

  -- ---- a call that goes outside
  module _ (c : CallId) (k : CallSite) (at : IsCallSite s c k) where
    outside : (o : Option SiteId) → K (OutsideAt c o) → IsClosed (Or (Freshens k) (IfSome (OutsideDoes s c k) (slice_get s.outside_rules c.0))) P
    outside None out = λ ps f d all. calling c k at (At (Static c) 0 ∷ ps) f (inr (inr (under d))) (out, all)
    outside (Some h) out = λ ps f d all. calling c k at (At (Receivers c) h.0 ∷ ps) f (inr (inl (each d))) (out, all)

    module _ (r : OutsideRule) (rule : slice_get s.outside_rules c.0 ≡ Some r) where
      by_rule : (o : Option SiteId) → K (OutsideAt c o) → IsClosed (OutsideDoes s c k r) P
      by_rule o out = λ ps f d all. outside o out ps f (inr (of_some (OutsideDoes s c k) (slice_get s.outside_rules c.0) r rule d)) all

      -- the place of an argument that may be h
      abbrev Placed : ℕ → SiteId → Type 0
      Placed i h = (p : Place) × IsArgumentPlace c k i p × P (At p h.0) × ((o : Option SiteId) × K (OutsideAt c o))

      placed : (i : ℕ) (h : SiteId) → OutsideArgument K c k.instance r (ArgumentHas s K k) (IsState s) i h → Placed i h
      placed i h (inl (is, out)) = (Receivers c, inl (is, refl), out, (Some h, out))
      placed i h (inr (further, out, (a, arg, x))) = (Variable a, inr (further, (a, arg, refl)), x, out)

      given : (q : Place) (is : List ℕ) (h : SiteId) → ((o : Option SiteId) → K (OutsideAt c o) → IsClosed (BothArguments s c k q is) P)
          → Gives K c k.instance r (ArgumentHas s K k) (IsState s) is h → P (At q h.0)
      given q is h by (inl (i, inside, x)) = let p = placed i h x in by p.3.0 p.3.1 (At p.0 h.0 ∷ []) (At q h.0) (i, inside, (p.0, p.1, inl flows)) (p.2, tt)
      given q is h by (inr (b, g, (i, inside, x), state, cell)) = let p = placed i b x in
          by p.3.0 p.3.1 (At p.0 b.0 ∷ At (Cell b g) h.0 ∷ []) (At q h.0)
          (i, inside, (p.0, p.1, inr (each (of_some (λ f. Flows (Cell b f) q) (state_of s b.0) g (found_state s b.0 g state) flows)))) (p.2, (cell, tt))

      answered : (v : Var) (b h : SiteId) → k.result ≡ Some v → k.fresh ≡ Some b → Gives K c k.instance r (ArgumentHas s K k) (IsState s) r.reads h → P (At (Variable v) h.0)
      answered v b h e e' x = given (Variable v) r.reads h (λ o out ps f d all. by_rule o out ps f
          (inl (of_some (λ w. IfSome (λ _. BothArguments s c k (Variable w) r.reads) k.fresh) k.result v e (of_some (λ (_ : SiteId). BothArguments s c k (Variable v) r.reads) k.fresh b e' d))) all) x

      written : (h : SiteId) → Gives K c k.instance r (ArgumentHas s K k) (IsState s) r.written h → P (At (Written c) h.0)
      written h x = given (Written c) r.written h (λ o out ps f d all. by_rule o out ps f (inr (inl d)) all) x

      filled : (b h : SiteId) (g : FieldId) → Writes K c k.instance r (ArgumentHas s K k) (IsState s) (IsElements s) b g → P (At (Written c) h.0) → P (At (Cell b g) h.0)
      filled b h g (inl ((i, inside, x), state)) w = let p = placed i b x in
          by_rule p.3.0 p.3.1 (At p.0 b.0 ∷ At (Written c) h.0 ∷ []) (At (Cell b g) h.0)
          (inr (inr (inl (i, inside, (p.0, p.1, each (of_some (λ f. Flows (Written c) (Cell b f)) (state_of s b.0) g (found_state s b.0 g state) flows)))))) (p.2, (w, tt))
      filled b h g (inr ((i, inside, x), elements)) w = let p = placed i b x in
          by_rule p.3.0 p.3.1 (At p.0 b.0 ∷ At (Written c) h.0 ∷ []) (At (Cell b g) h.0)
          (inr (inr (inr (i, inside, (p.0, p.1, each (of_some (λ f. Flows (Written c) (Cell b f)) (elements_of s b.0) g (found_elements s b.0 g elements) flows)))))) (p.2, (w, tt))

    -- ---- a call and its target
    joined : (t : MethodId) (m : MethodVars) → K (Calls c t) → IsMethodVars s t m → IsClosed (Binds k m) P
    joined t m x inside = λ ps f d all. calling c k at (At (Targets c) t.0 ∷ ps) f (inl (each (of_some (Binds k) (slice_get s.methods t.0) m inside d))) (x, all)

    some_flows : (a b : Option Var) (v w : Var) (h : SiteId) → a ≡ Some v → b ≡ Some w → FlowsSome a b (At (Variable v) h.0 ∷ []) (At (Variable w) h.0)
    some_flows a b v w h e e' = of_some (λ x. IfSome (λ y. Flows (Variable x) (Variable y)) b) a v e (of_some (λ y. Flows (Variable v) (Variable y)) b w e' flows)

  -- a set of items that is closed has what follows from its facts
  pub followed : (f : SystemFact) → SystemFollows s K f → K f
  followed _ (enter {t} p) = in_force (Enter t) p [] _ adds tt
  followed _ (alloc {v} {h} p) = in_force (Alloc v h) p [] _ adds tt
  followed _ (hold {a} {b} p) = in_force (Hold a b) p [] _ adds tt
  followed _ (copy {v} {w} {keep} {h} p x e) = copied v w keep h p x e
  followed _ (load {v} {w} {f} {b} {h} p x y) = in_force (Load v f w) p (At (Variable v) b.0 ∷ At (Cell b f) h.0 ∷ []) _ (each flows) (x, (y, tt))
  followed _ (store {v} {w} {f} {b} {h} p x y) = in_force (Store v f w) p (At (Variable v) b.0 ∷ At (Variable w) h.0 ∷ []) _ (each flows) (x, (y, tt))
  followed _ (direct_calls {c} {t} p) = in_force (Direct c t) p [] _ (inl (inl adds)) tt
  followed _ (direct_enters {c} {t} p) = in_force (Direct c t) p [] _ (inl (inr adds)) tt
  followed _ (direct_receives {c} {t} {k} {m} {v} {h} p at inside e (is, (a, arg, x))) =
      in_force (Direct c t) p (At (Variable a) h.0 ∷ []) _ (inr (some_flows c k at (receiver_at s c) (formal_at s t 0) a v h (found_receiver_at s c k a at is arg) (found_formal s t 0 m v inside e))) (x, tt)
  followed _ (virtual_calls {c} {g} {t} {k} {h} p at x e) = chosen c g k h p at x [] _ (inl (t, e, inl (inl adds))) tt
  followed _ (virtual_enters {c} {g} {t} {k} {h} p at x e) = chosen c g k h p at x [] _ (inl (t, e, inl (inr adds))) tt
  followed _ (virtual_receives {c} {g} {t} {k} {m} {v} {h} p at x e inside is) =
      chosen c g k h p at x [] _ (inl (t, e, inr (of_some (λ w. Adds (Variable w) h.0) (formal_at s t 0) v (found_formal s t 0 m v inside is) adds))) tt
  followed _ (virtual_outside {c} {g} {k} {h} p at x e) = chosen c g k h p at x [] _ (inr (e, adds)) tt
  followed _ (outside_static {c} {k} p at e) = in_force (OutsideDirect c) p [] _ (of_some (GoesOutside c) (slice_get s.calls c.0) k at (inl (e, adds))) tt
  followed _ (outside_special {c} {k} {h} p at (is, (a, arg, x))) =
      in_force (OutsideDirect c) p (At (Variable a) h.0 ∷ []) _ (of_some (GoesOutside c) (slice_get s.calls c.0) k at (inr (of_some (λ v. Flows (Variable v) (Receivers c)) (receiver_of k) a (found_receiver k a is arg) flows))) (x, tt)
  followed _ (passes {c} {t} {k} {m} {i} {v} {h} x at inside further (a, arg, y) e) =
      joined c k at t m x inside (At (Variable a) h.0 ∷ []) _ (inl (i, slice_get_within k.arguments i a arg, (further, some_flows c k at (slice_get k.arguments i) (slice_get m.formals i) a v h arg e))) (y, tt)
  followed _ (answers {c} {t} {k} {m} {v} {w} {h} x at inside from to y) = joined c k at t m x inside (At (Variable v) h.0 ∷ []) _ (inr (inl (some_flows c k at m.result k.result v w h from to))) (y, tt)
  followed _ (throws {c} {t} {k} {m} {h} x at inside y) = joined c k at t m x inside (At (Variable m.thrown) h.0 ∷ []) _ (inr (inr flows)) (y, tt)
  followed _ (fresh {c} {k} {o} {v} {h} x at e e') = outside c k at o x [] _ (inl (of_some (λ w. IfSome (λ (b : SiteId). Adds (Variable w) b.0) k.fresh) k.result v e (of_some (λ (b : SiteId). Adds (Variable v) b.0) k.fresh h e' adds))) tt
  followed _ (gives {c} {k} {r} {v} {b} {h} at rule e e' x) = answered c k at r rule v b h e e' x
  followed _ (writes {c} {k} {r} {b} {h} {f} at rule x y) = filled c k at r rule b h f x (written c k at r rule h y)
