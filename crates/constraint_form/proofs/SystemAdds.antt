-- What follows from facts of a system that can be added to any derivation can be added too.
use Rattle.std.proofs.Common.{ℕ, inl, inr}
use Rattle.slicer_ids.specs.declared.ids.SiteId.{SiteId}
use Rattle.dep_form.specs.declared.rules.Rule.{Rule}
use Rattle.dep_form.specs.declared.call_site.CallSite.{CallSite}
use Rattle.dep_form.specs.declared.system.System.{System}
use Rattle.dep_form.specs.PointsTo.{Gives, Writes}
use Rattle.dep_form.specs.Constraints.{SystemFact, SystemFollows, SystemHolds, InForce, ArgumentHas, IsState, IsElements, enter, alloc, hold, copy, load, store, direct_calls, direct_enters, direct_receives, virtual_calls, virtual_enters, virtual_receives, virtual_outside, outside_static, outside_special, passes, answers, throws, fresh, gives, writes}
use Rattle.dep_form.proofs.Closed.{all_in}
use Rattle.constraint_form.proofs.Adding.{Widens, Extends, Adds, both, made, made1, made2}
use Rattle.constraint_form.proofs.OutsideAdds.{gives_extends, writes_extends, writes_wide}

module _ (s : System) where
  abbrev pub Known : SystemFact → Type 0
  Known = Adds (SystemFollows s)

  force_wide : (r : Rule) → Widens (λ (K : SystemFact → Type 0). InForce s K r)
  force_wide r K L w (m, c, inl e) = (m, c, inl e)
  force_wide r K L w (m, c, inr x) = (m, c, inr (w _ x))

  force_extends : (r : Rule) → InForce s Known r → Extends (SystemFollows s) (λ K. InForce s K r)
  force_extends r (m, c, inl e) = λ base d. (base, d, λ g c. c, (m, c, inl e))
  force_extends r (m, c, inr x) = λ base d. let y = x base d in (y.0, y.1, y.2, (m, c, inr y.3))

  argument_wide : (k : CallSite) (i : ℕ) (h : SiteId) → Widens (λ (K : SystemFact → Type 0). ArgumentHas s K k i h)
  argument_wide k i h K L w x = (x.0, x.1, w _ x.2)

  argument_extends : (k : CallSite) (i : ℕ) (h : SiteId) → ArgumentHas s Known k i h → Extends (SystemFollows s) (λ K. ArgumentHas s K k i h)
  argument_extends k i h (a, at, x) = λ base e. let y = x base e in (y.0, y.1, y.2, (a, at, y.3))

  -- what follows from a constraint in force, and one fact, or two
  forced0 : (r : Rule) {f : SystemFact} → InForce s Known r → ((K : SystemFact → Type 0) → InForce s K r → SystemFollows s K f) → Known f
  forced0 r {f} p rule = made (SystemFollows s) (λ K. InForce s K r) f (force_extends r p) rule

  forced1 : (r : Rule) {a f : SystemFact} → InForce s Known r → Known a → ((K : SystemFact → Type 0) → InForce s K r → K a → SystemFollows s K f) → Known f
  forced1 r {a} {f} p x rule =
      made (SystemFollows s) (λ K. InForce s K r × K a) f (both (SystemFollows s) (λ K. InForce s K r) (λ K. K a) (force_wide r) (force_extends r p) x) (λ K k. rule K k.0 k.1)

  forced2 : (r : Rule) {a b f : SystemFact} → InForce s Known r → Known a → Known b →
      ((K : SystemFact → Type 0) → InForce s K r → K a → K b → SystemFollows s K f) → Known f
  forced2 r {a} {b} {f} p x y rule =
      made (SystemFollows s) (λ K. InForce s K r × (K a × K b)) f
      (both (SystemFollows s) (λ K. InForce s K r) (λ K. K a × K b) (force_wide r) (force_extends r p) (both (SystemFollows s) (λ K. K a) (λ K. K b) (λ K L w k. w _ k) x y))
      (λ K k. rule K k.0 k.1.0 k.1.1)

  pub known : {f : SystemFact} → SystemFollows s Known f → Known f
  known (enter p) = forced0 _ p (λ K q. enter q)
  known (alloc p) = forced0 _ p (λ K q. alloc q)
  known (hold p) = forced0 _ p (λ K q. hold q)
  known (copy p x e) = forced1 _ p x (λ K q a. copy q a e)
  known (load p x y) = forced2 _ p x y (λ K q a b. load q a b)
  known (store p x y) = forced2 _ p x y (λ K q a b. store q a b)
  known (direct_calls p) = forced0 _ p (λ K q. direct_calls q)
  known (direct_enters p) = forced0 _ p (λ K q. direct_enters q)
  known (direct_receives p a b e (i, (v, at, x))) = forced1 _ p x (λ K q y. direct_receives q a b e (i, (v, at, y)))
  known (virtual_calls p a (i, (v, at, x)) e) = forced1 _ p x (λ K q y. virtual_calls q a (i, (v, at, y)) e)
  known (virtual_enters p a (i, (v, at, x)) e) = forced1 _ p x (λ K q y. virtual_enters q a (i, (v, at, y)) e)
  known (virtual_receives p a (i, (v, at, x)) e b d) = forced1 _ p x (λ K q y. virtual_receives q a (i, (v, at, y)) e b d)
  known (virtual_outside p a (i, (v, at, x)) e) = forced1 _ p x (λ K q y. virtual_outside q a (i, (v, at, y)) e)
  known (outside_static p a e) = forced0 _ p (λ K q. outside_static q a e)
  known (outside_special p a (i, (v, at, x))) = forced1 _ p x (λ K q y. outside_special q a (i, (v, at, y)))
  known (passes x a b n (v, at, y) e) = made2 (SystemFollows s) x y (λ K c d. passes c a b n (v, at, d) e)
  known (answers x a b d e y) = made2 (SystemFollows s) x y (λ K c f. answers c a b d e f)
  known (throws x a b y) = made2 (SystemFollows s) x y (λ K c d. throws c a b d)
  known (fresh x a d e) = made1 (SystemFollows s) x (λ K c. fresh c a d e)
  known (gives {c} {k} {r} {h} a b d e g) =
      made (SystemFollows s) (λ K. Gives K c k.instance r (ArgumentHas s K k) (IsState s) r.reads h) _
      (gives_extends (SystemFollows s) c k.instance r (λ K. ArgumentHas s K k) (argument_wide k) (argument_extends k) (IsState s) r.reads h g)
      (λ K x. gives a b d e x)
  known (writes {c} {k} {r} {b} {h} {f} a d w g) =
      made (SystemFollows s) (λ K. Writes K c k.instance r (ArgumentHas s K k) (IsState s) (IsElements s) b f × Gives K c k.instance r (ArgumentHas s K k) (IsState s) r.written h) _
      (both (SystemFollows s) (λ K. Writes K c k.instance r (ArgumentHas s K k) (IsState s) (IsElements s) b f) (λ K. Gives K c k.instance r (ArgumentHas s K k) (IsState s) r.written h)
      (writes_wide (SystemFollows s) c k.instance r (λ K. ArgumentHas s K k) (argument_wide k) (argument_extends k) (IsState s) (IsElements s) b f)
      (writes_extends (SystemFollows s) c k.instance r (λ K. ArgumentHas s K k) (argument_wide k) (argument_extends k) (IsState s) (IsElements s) b f w)
      (gives_extends (SystemFollows s) c k.instance r (λ K. ArgumentHas s K k) (argument_wide k) (argument_extends k) (IsState s) r.written h g))
      (λ K x. writes a d x.0 x.1)

  -- each fact that holds can be added
  pub holds_known : (f : SystemFact) → SystemHolds s f → Known f
  holds_known f h = all_in s Known (λ g x. known x) h.0 h.1 f h.2
