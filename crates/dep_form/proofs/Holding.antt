-- What follows from facts that hold follows from finitely many of them, so the facts that hold are closed under the rules.
use Rattle.std.proofs.Common.{◌⊎◌, ℕ, List, [], ◌∷◌, ◌++◌, Some, inl, inr}
use Rattle.std.specs.Prelude.{Contains}
use Rattle.std.proofs.lemmas.List.Elements.{Contains-append_left, Contains-append_right}
use Rattle.slicer_ids.specs.declared.ids.SiteId.{SiteId}
use Rattle.slicer_ids.specs.declared.ids.CallId.{CallId}
use Rattle.slicer_ids.specs.declared.ids.FieldId.{FieldId}
use Rattle.dep_form.specs.declared.rules.Rule.{Rule}
use Rattle.dep_form.specs.declared.rules.OutsideRule.{OutsideRule}
use Rattle.dep_form.specs.declared.call_site.CallSite.{CallSite}
use Rattle.dep_form.specs.declared.system.System.{System}
use Rattle.dep_form.specs.PointsTo.{Reached, Has, Cell, Calls, OutsideAt, OutsideArgument, OneMayBe, Gives, Writes}
use Rattle.dep_form.specs.Constraints.{SystemFact, SystemFollows, SystemHolds, IsRoot, InForce, ArgumentHas, IsState, IsElements, enter, alloc, hold, copy, load, store, direct_calls, direct_enters, direct_receives, virtual_calls, virtual_enters, virtual_receives, virtual_outside, outside_static, outside_special, passes, answers, throws, fresh, gives, writes}
use Rattle.dep_form.proofs.Closed.{one_may_be, gives_wider, writes_wider, wider}
use Rattle.dep_form.proofs.Derived.{AllHold, FromSome, both_hold, first, second, in_rest, derived}

module _ (s : System) (K : SystemFact → Type 0) where
  -- the rule is in force by some facts, with more facts beside them
  forced : (r : Rule) → InForce s K r → (fs : List SystemFact) → AllHold K fs → (gs : List SystemFact) × AllHold K gs × InForce s (Contains gs) r × ((g : SystemFact) → Contains fs g → Contains gs g)
  forced r p fs a = by_cause p.2
    where
      by_cause : IsRoot s p.0 ⊎ K (Reached p.0) → (gs : List SystemFact) × AllHold K gs × InForce s (Contains gs) r × ((g : SystemFact) → Contains fs g → Contains gs g)
      by_cause (inl e) = (fs, a, (p.0, p.1, inl e), λ g c. c)
      by_cause (inr k) = (Reached p.0 ∷ fs, (k, a), (p.0, p.1, inr (first (Reached p.0) fs)), λ g c. in_rest (Reached p.0) fs g c)

  some_outside : (c : CallId) (k : CallSite) (r : OutsideRule) (i : ℕ) (h : SiteId) →
      OutsideArgument K c k.instance r (ArgumentHas s K k) (IsState s) i h → FromSome K (λ L. OutsideArgument L c k.instance r (ArgumentHas s L k) (IsState s) i h)
  some_outside c k r i h (inl p) = (OutsideAt c (Some h) ∷ [], (p.1, tt), inl (p.0, first (OutsideAt c (Some h)) []))
  some_outside c k r i h (inr p) = (
    OutsideAt c p.1.0 ∷ Has p.2.0 h ∷ [],
    (p.1.1, (p.2.2, tt)),
    inr (p.0, (p.1.0, first (OutsideAt c p.1.0) (Has p.2.0 h ∷ [])), (p.2.0, p.2.1, second (OutsideAt c p.1.0) (Has p.2.0 h) [])),
  )

  some_one : (c : CallId) (k : CallSite) (r : OutsideRule) (is : List ℕ) (h : SiteId) →
      OneMayBe K c k.instance r (ArgumentHas s K k) (IsState s) is h → FromSome K (λ L. OneMayBe L c k.instance r (ArgumentHas s L k) (IsState s) is h)
  some_one c k r is h p = let a = some_outside c k r p.0 h p.2 in (a.0, a.1, (p.0, p.1, a.2))

  some_gives : (c : CallId) (k : CallSite) (r : OutsideRule) (is : List ℕ) (h : SiteId) →
      Gives K c k.instance r (ArgumentHas s K k) (IsState s) is h → FromSome K (λ L. Gives L c k.instance r (ArgumentHas s L k) (IsState s) is h)
  some_gives c k r is h (inl p) = let a = some_one c k r is h p in (a.0, a.1, inl a.2)
  some_gives c k r is h (inr p) =
      let a = some_one c k r is p.0 p.2 in
      let cell : SystemFact = Cell p.0 p.1 h in (
        cell ∷ a.0,
        (p.4, a.1),
        inr (p.0, p.1, one_may_be s (Contains a.0) (Contains (cell ∷ a.0)) (λ g x. in_rest cell a.0 g x) c k r is p.0 a.2, p.3, first cell a.0),
      )

  some_writes : (c : CallId) (k : CallSite) (r : OutsideRule) (b : SiteId) (f : FieldId) →
      Writes K c k.instance r (ArgumentHas s K k) (IsState s) (IsElements s) b f → FromSome K (λ L. Writes L c k.instance r (ArgumentHas s L k) (IsState s) (IsElements s) b f)
  some_writes c k r b f (inl p) = let a = some_one c k r r.states b p.0 in (a.0, a.1, inl (a.2, p.1))
  some_writes c k r b f (inr p) = let a = some_one c k r r.arrays b p.0 in (a.0, a.1, inr (a.2, p.1))

  from_some : {f : SystemFact} → SystemFollows s K f → FromSome K (λ L. SystemFollows s L f)
  from_some (enter p) = let q = forced _ p [] tt in (q.0, q.1, enter q.2)
  from_some (alloc p) = let q = forced _ p [] tt in (q.0, q.1, alloc q.2)
  from_some (hold p) = let q = forced _ p [] tt in (q.0, q.1, hold q.2)
  from_some (copy {v} {h} p x e) = let q = forced _ p (Has v h ∷ []) (x, tt) in (q.0, q.1, copy q.2 (q.3 _ (first (Has v h) [])) e)
  from_some (load {v} {f} {b} {h} p x y) = let q = forced _ p (Has v b ∷ Cell b f h ∷ []) (x, (y, tt)) in (q.0, q.1, load q.2 (q.3 _ (first (Has v b) (Cell b f h ∷ []))) (q.3 _ (second (Has v b) (Cell b f h) [])))
  from_some (store {v} {w} {b} {h} p x y) = let q = forced _ p (Has v b ∷ Has w h ∷ []) (x, (y, tt)) in (q.0, q.1, store q.2 (q.3 _ (first (Has v b) (Has w h ∷ []))) (q.3 _ (second (Has v b) (Has w h) [])))
  from_some (direct_calls p) = let q = forced _ p [] tt in (q.0, q.1, direct_calls q.2)
  from_some (direct_enters p) = let q = forced _ p [] tt in (q.0, q.1, direct_enters q.2)
  from_some (direct_receives {h} p a b e x) = let q = forced _ p (Has x.1.0 h ∷ []) (x.1.2, tt) in (q.0, q.1, direct_receives q.2 a b e (x.0, (x.1.0, x.1.1, q.3 _ (first (Has x.1.0 h) []))))
  from_some (virtual_calls {h} p a x e) = let q = forced _ p (Has x.1.0 h ∷ []) (x.1.2, tt) in (q.0, q.1, virtual_calls q.2 a (x.0, (x.1.0, x.1.1, q.3 _ (first (Has x.1.0 h) []))) e)
  from_some (virtual_enters {h} p a x e) = let q = forced _ p (Has x.1.0 h ∷ []) (x.1.2, tt) in (q.0, q.1, virtual_enters q.2 a (x.0, (x.1.0, x.1.1, q.3 _ (first (Has x.1.0 h) []))) e)
  from_some (virtual_receives {h} p a x e b d) = let q = forced _ p (Has x.1.0 h ∷ []) (x.1.2, tt) in (q.0, q.1, virtual_receives q.2 a (x.0, (x.1.0, x.1.1, q.3 _ (first (Has x.1.0 h) []))) e b d)
  from_some (virtual_outside {h} p a x e) = let q = forced _ p (Has x.1.0 h ∷ []) (x.1.2, tt) in (q.0, q.1, virtual_outside q.2 a (x.0, (x.1.0, x.1.1, q.3 _ (first (Has x.1.0 h) []))) e)
  from_some (outside_static p a e) = let q = forced _ p [] tt in (q.0, q.1, outside_static q.2 a e)
  from_some (outside_special {h} p a x) = let q = forced _ p (Has x.1.0 h ∷ []) (x.1.2, tt) in (q.0, q.1, outside_special q.2 a (x.0, (x.1.0, x.1.1, q.3 _ (first (Has x.1.0 h) []))))
  from_some (passes {c} {t} {h} x a b n y e) = (Calls c t ∷ Has y.0 h ∷ [], (x, (y.2, tt)), passes (first (Calls c t) (Has y.0 h ∷ [])) a b n (y.0, y.1, second (Calls c t) (Has y.0 h) []) e)
  from_some (answers {c} {t} {v} {h} x a b d e y) = (Calls c t ∷ Has v h ∷ [], (x, (y, tt)), answers (first (Calls c t) (Has v h ∷ [])) a b d e (second (Calls c t) (Has v h) []))
  from_some (throws {c} {t} {m} {h} x a b y) = (Calls c t ∷ Has m.thrown h ∷ [], (x, (y, tt)), throws (first (Calls c t) (Has m.thrown h ∷ [])) a b (second (Calls c t) (Has m.thrown h) []))
  from_some (fresh {c} {o} x a d e) = (OutsideAt c o ∷ [], (x, tt), fresh (first (OutsideAt c o) []) a d e)
  from_some (gives {c} {k} {r} {h} a b d e x) = let q = some_gives c k r r.reads h x in (q.0, q.1, gives a b d e q.2)
  from_some (writes {c} {k} {r} {b} {h} {f} a d x y) =
      let q = some_writes c k r b f x in
      let t = some_gives c k r r.written h y in
      let all = q.0 ++ t.0 in (
        all,
        both_hold K q.0 t.0 q.1 t.1,
        writes a d (writes_wider s (Contains q.0) (Contains all) (λ g z. Contains-append_left q.0 t.0 g z) c k r b f q.2) (gives_wider s (Contains t.0) (Contains all) (λ g z. Contains-append_right q.0 t.0 g z) c k r r.written h t.2),
      )

-- what follows from facts that hold holds
pub closed : (s : System) (f : SystemFact) → SystemFollows s (SystemHolds s) f → SystemHolds s f
closed s f r = derived (SystemFollows s) (λ K L w g x. wider s K L w x) f (from_some s (SystemHolds s) r)
