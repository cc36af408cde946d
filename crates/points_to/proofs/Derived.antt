-- Facts with derivations: what follows from them has one.
use Rattle.std.proofs.Common.{◌≡◌, ◌⊎◌, ℕ, List, [], ◌∷◌, ◌++◌, Option, Some, None, Contains, inl, inr, refl, arith, suc}
use Rattle.std.proofs.lemmas.List.Elements.{Contains-append_left, Contains-append_right}
use Rattle.slicer_ids.specs.Derivations.{IsDerivation}
use Rattle.slicer_ids.specs.declared.ids.CallId.{CallId}
use Rattle.slicer_ids.specs.declared.ids.SiteId.{SiteId}
use Rattle.dep_form.specs.declared.call_site.CallSite.{CallSite}
use Rattle.dep_form.specs.declared.rules.OutsideRule.{OutsideRule}
use Rattle.dep_form.specs.declared.system.System.{System}
use Rattle.dep_form.specs.PointsTo.{Has, Cell as Holds, Calls, OutsideAt, Reached, OneMayBe, OutsideArgument, Gives}
use Rattle.dep_form.specs.Constraints.{SystemFact, SystemFollows, SystemHolds, ArgumentHas, IsState}
use Rattle.points_to.specs.declared.place.Place.TheVariants.{Variable, Cell, Targets, Receivers, Static, Written, Running}
use Rattle.points_to.specs.Items.{Item, At, AllOf}
use Rattle.points_to.specs.Rules.{site, method}
use Rattle.points_to.specs.Meaning.{Means, MeansTrue, IsWrittenBy}
use Rattle.points_to.proofs.Wider.{wider, gives_wider}

pub means_wider : (s : System) (K L : SystemFact → Type 0) → ((g : SystemFact) → K g → L g) → (f : Item) → Means s K f → Means s L f
means_wider s K L w (At (Variable v) n) m = w _ m
means_wider s K L w (At (Cell o f) n) m = w _ m
means_wider s K L w (At (Targets c) n) m = w _ m
means_wider s K L w (At (Receivers c) n) m = w _ m
means_wider s K L w (At (Static c) n) m = w _ m
means_wider s K L w (At (Written c) n) m = (m.0, m.1, m.2, m.3, gives_wider s K L w c m.0 m.1 m.1.written (site n) m.4)
means_wider s K L w (At Running n) m = w _ m

all_wider : (s : System) (K L : SystemFact → Type 0) → ((g : SystemFact) → K g → L g) → (ps : List Item) → AllOf (Means s K) ps → AllOf (Means s L) ps
all_wider s K L w [] a = tt
all_wider s K L w (p ∷ ps) a = (means_wider s K L w p a.0, all_wider s K L w ps a.1)

appended : (s : System) (xs ys : List SystemFact) → IsDerivation (SystemFollows s) xs → IsDerivation (SystemFollows s) ys → IsDerivation (SystemFollows s) (xs ++ ys)
appended s [] ys d e = e
appended s (x ∷ xs) ys d e = (wider s (Contains xs) (Contains (xs ++ ys)) (λ g c. Contains-append_left xs ys g c) d.0, appended s xs ys d.1 e)

-- all of P can be had from the facts of one derivation
abbrev pub Finite : System → ((SystemFact → Type 0) → Type 0) → Type 0
Finite s P = (fs : List SystemFact) × IsDerivation (SystemFollows s) fs × P (Contains fs)

abbrev pub Both : ((SystemFact → Type 0) → Type 0) → ((SystemFact → Type 0) → Type 0) → (SystemFact → Type 0) → Type 0
Both P Q K = P K × Q K

-- P stays where there are more facts
abbrev pub Widens : ((SystemFact → Type 0) → Type 0) → Type 1
Widens P = (K L : SystemFact → Type 0) → ((g : SystemFact) → K g → L g) → P K → P L

both_finite : (s : System) (P Q : (SystemFact → Type 0) → Type 0) → Widens P → Widens Q → Finite s P → Finite s Q → Finite s (Both P Q)
both_finite s P Q wp wq a b = (
  a.0 ++ b.0,
  appended s a.0 b.0 a.1 b.1,
  (wp (Contains a.0) (Contains (a.0 ++ b.0)) (λ g c. Contains-append_left a.0 b.0 g c) a.2, wq (Contains b.0) (Contains (a.0 ++ b.0)) (λ g c. Contains-append_right a.0 b.0 g c) b.2),
)

module _ (s : System) (c : CallId) (k : CallSite) (r : OutsideRule) where
  outside_finite : (i : ℕ) (h : SiteId) → OutsideArgument (SystemHolds s) c k.instance r (ArgumentHas s (SystemHolds s) k) (IsState s) i h
      → Finite s (λ K. OutsideArgument K c k.instance r (ArgumentHas s K k) (IsState s) i h)
  outside_finite i h (inl p) = (p.1.0, p.1.1, inl (p.0, p.1.2))
  outside_finite i h (inr p) =
      let b = both_finite s (λ K. K (OutsideAt c p.1.0)) (λ K. K (Has p.2.0 h)) (λ K L w x. w _ x) (λ K L w x. w _ x) p.1.1 p.2.2 in
      (b.0, b.1, inr (p.0, (p.1.0, b.2.0), (p.2.0, p.2.1, b.2.1)))

  one_finite : (is : List ℕ) (h : SiteId) → OneMayBe (SystemHolds s) c k.instance r (ArgumentHas s (SystemHolds s) k) (IsState s) is h
      → Finite s (λ K. OneMayBe K c k.instance r (ArgumentHas s K k) (IsState s) is h)
  one_finite is h p = let a = outside_finite p.0 h p.2 in (a.0, a.1, (p.0, p.1, a.2))

  gives_finite : (is : List ℕ) (h : SiteId) → Gives (SystemHolds s) c k.instance r (ArgumentHas s (SystemHolds s) k) (IsState s) is h
      → Finite s (λ K. Gives K c k.instance r (ArgumentHas s K k) (IsState s) is h)
  gives_finite is h (inl p) = let a = one_finite is h p in (a.0, a.1, inl a.2)
  gives_finite is h (inr p) =
      let a = one_finite is p.0 p.2 in
      let b = p.4 in
      let fs = a.0 ++ b.0 in
      (fs, appended s a.0 b.0 a.1 b.1, inr (p.0, p.1, once (Contains a.0) (Contains fs) (λ g x. Contains-append_left a.0 b.0 g x) a.2, p.3, Contains-append_right a.0 b.0 _ b.2))
    where
      once : (K L : SystemFact → Type 0) → ((g : SystemFact) → K g → L g) → OneMayBe K c k.instance r (ArgumentHas s K k) (IsState s) is p.0 → OneMayBe L c k.instance r (ArgumentHas s L k) (IsState s) is p.0
      once K L w x = (x.0, x.1, one x.2)
        where
          one : {i : ℕ} → OutsideArgument K c k.instance r (ArgumentHas s K k) (IsState s) i p.0 → OutsideArgument L c k.instance r (ArgumentHas s L k) (IsState s) i p.0
          one (inl y) = inl (y.0, w _ y.1)
          one (inr y) = inr (y.0, (y.1.0, w _ y.1.1), (y.2.0, y.2.1, w _ y.2.2))

means_finite : (s : System) (f : Item) → MeansTrue s f → Finite s (λ K. Means s K f)
means_finite s (At (Variable v) n) m = m
means_finite s (At (Cell o f) n) m = m
means_finite s (At (Targets c) n) m = m
means_finite s (At (Receivers c) n) m = m
means_finite s (At (Static c) n) m = m
means_finite s (At (Written c) n) m = let g = gives_finite s c m.0 m.1 m.1.written (site n) m.4 in (g.0, g.1, (m.0, m.1, m.2, m.3, g.2))
means_finite s (At Running n) m = m

pub all_finite : (s : System) (ps : List Item) → AllOf (MeansTrue s) ps → Finite s (λ K. AllOf (Means s K) ps)
all_finite s [] a = ([], tt, tt)
all_finite s (p ∷ ps) a = both_finite s (λ K. Means s K p) (λ K. AllOf (Means s K) ps) (λ K L w x. means_wider s K L w p x) (λ K L w x. all_wider s K L w ps x) (means_finite s p a.0) (all_finite s ps a.1)

-- what follows from the facts of a derivation has one
pub derived : (s : System) (fs : List SystemFact) (f : SystemFact) → IsDerivation (SystemFollows s) fs → SystemFollows s (Contains fs) f → SystemHolds s f
derived s fs f d h = (f ∷ fs, (h, d), (0, omega arith, refl))

pub in_derivation : (s : System) (fs : List SystemFact) → IsDerivation (SystemFollows s) fs → (f : SystemFact) → Contains fs f → SystemHolds s f
in_derivation s fs d f c = (fs, d, c)
