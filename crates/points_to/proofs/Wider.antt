-- What follows from some facts follows from more.
use Rattle.std.proofs.Common.{◌≡◌, ◌⊎◌, ℕ, List, Contains, inl, inr}
use Rattle.slicer_ids.specs.declared.ids.CallId.{CallId}
use Rattle.slicer_ids.specs.declared.ids.FieldId.{FieldId}
use Rattle.slicer_ids.specs.declared.ids.SiteId.{SiteId}
use Rattle.dep_form.specs.declared.call_site.CallSite.{CallSite}
use Rattle.dep_form.specs.declared.rules.OutsideRule.{OutsideRule}
use Rattle.dep_form.specs.declared.rules.Rule.{Rule}
use Rattle.dep_form.specs.declared.system.System.{System}
use Rattle.dep_form.specs.PointsTo.{OutsideArgument, OneMayBe, Gives, Writes}
use Rattle.dep_form.specs.Constraints.{SystemFact, SystemFollows, InForce, ArgumentHas, ReceiverHas, IsState, IsElements, enter, alloc, hold, copy, load, store, direct_calls, direct_enters, direct_receives, virtual_calls, virtual_enters, virtual_receives, virtual_outside, outside_static, outside_special, passes, answers, throws, fresh, gives, writes}

module _ (s : System) (K L : SystemFact → Type 0) (w : (g : SystemFact) → K g → L g) where
  in_force : (r : Rule) → InForce s K r → InForce s L r
  in_force r p = (p.0, p.1, elim p.2 [ inl e ↦ inl e | inr k ↦ inr (w _ k) ])

  argument : (k : CallSite) (i : ℕ) (h : SiteId) → ArgumentHas s K k i h → ArgumentHas s L k i h
  argument k i h p = (p.0, p.1, w _ p.2)

  receiver : (k : CallSite) (h : SiteId) → ReceiverHas s K k h → ReceiverHas s L k h
  receiver k h p = (p.0, argument k 0 h p.1)

  outside_argument : (c : CallId) (k : CallSite) (r : OutsideRule) (i : ℕ) (h : SiteId) →
      OutsideArgument K c k.instance r (ArgumentHas s K k) (IsState s) i h → OutsideArgument L c k.instance r (ArgumentHas s L k) (IsState s) i h
  outside_argument c k r i h (inl p) = inl (p.0, w _ p.1)
  outside_argument c k r i h (inr p) = inr (p.0, (p.1.0, w _ p.1.1), argument k i h p.2)

  one_may_be : (c : CallId) (k : CallSite) (r : OutsideRule) (is : List ℕ) (h : SiteId) →
      OneMayBe K c k.instance r (ArgumentHas s K k) (IsState s) is h → OneMayBe L c k.instance r (ArgumentHas s L k) (IsState s) is h
  one_may_be c k r is h p = (p.0, p.1, outside_argument c k r p.0 h p.2)

  pub gives_wider : (c : CallId) (k : CallSite) (r : OutsideRule) (is : List ℕ) (h : SiteId) →
      Gives K c k.instance r (ArgumentHas s K k) (IsState s) is h → Gives L c k.instance r (ArgumentHas s L k) (IsState s) is h
  gives_wider c k r is h (inl p) = inl (one_may_be c k r is h p)
  gives_wider c k r is h (inr p) = inr (p.0, p.1, one_may_be c k r is p.0 p.2, p.3, w _ p.4)

  writes_wider : (c : CallId) (k : CallSite) (r : OutsideRule) (b : SiteId) (f : FieldId) →
      Writes K c k.instance r (ArgumentHas s K k) (IsState s) (IsElements s) b f → Writes L c k.instance r (ArgumentHas s L k) (IsState s) (IsElements s) b f
  writes_wider c k r b f (inl p) = inl (one_may_be c k r r.states b p.0, p.1)
  writes_wider c k r b f (inr p) = inr (one_may_be c k r r.arrays b p.0, p.1)

  pub wider : {f : SystemFact} → SystemFollows s K f → SystemFollows s L f
  wider (enter p) = enter (in_force _ p)
  wider (alloc p) = alloc (in_force _ p)
  wider (hold p) = hold (in_force _ p)
  wider (copy p x e) = copy (in_force _ p) (w _ x) e
  wider (load p x y) = load (in_force _ p) (w _ x) (w _ y)
  wider (store p x y) = store (in_force _ p) (w _ x) (w _ y)
  wider (direct_calls p) = direct_calls (in_force _ p)
  wider (direct_enters p) = direct_enters (in_force _ p)
  wider (direct_receives {k} {h} p a b e x) = direct_receives (in_force _ p) a b e (receiver k h x)
  wider (virtual_calls {k} {h} p a x e) = virtual_calls (in_force _ p) a (receiver k h x) e
  wider (virtual_enters {k} {h} p a x e) = virtual_enters (in_force _ p) a (receiver k h x) e
  wider (virtual_receives {k} {h} p a x e b d) = virtual_receives (in_force _ p) a (receiver k h x) e b d
  wider (virtual_outside {k} {h} p a x e) = virtual_outside (in_force _ p) a (receiver k h x) e
  wider (outside_static p a e) = outside_static (in_force _ p) a e
  wider (outside_special {k} {h} p a x) = outside_special (in_force _ p) a (receiver k h x)
  wider (passes {k} {i} {h} x a b n y e) = passes (w _ x) a b n (argument k i h y) e
  wider (answers x a b d e y) = answers (w _ x) a b d e (w _ y)
  wider (throws x a b y) = throws (w _ x) a b (w _ y)
  wider (fresh x a d e) = fresh (w _ x) a d e
  wider (gives {c} {k} {r} {h} a b d e x) = gives a b d e (gives_wider c k r r.reads h x)
  wider (writes {c} {k} {r} {b} {h} {f} a d x y) = writes a d (writes_wider c k r b f x) (gives_wider c k r r.written h y)
