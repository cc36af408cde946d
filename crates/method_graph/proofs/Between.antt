-- Flows between accesses that meet.
use Rattle.std.proofs.Common.{◌≡◌, ◌<◌, ◌≤◌, ◌+◌, ℕ, List, take, length, get_or, Contains, sym, ap, subst, arith}
use Rattle.std.specs.Prelude.{◌↔◌}
use Rattle.std.specs.Prelude.{All}
use Rattle.std.proofs.lemmas.List.{take_all}
use Rattle.std.proofs.lemmas.List.Elements.{Contains-get_or}
use Rattle.slicer_ids.specs.declared.ids.NodeId.{NodeId}
use Rattle.slicer_ids.specs.declared.ids.LocId.{LocId}
use Rattle.method_graph.specs.Accesses.{access_of}
use Rattle.worklists.specs.Growth.{Grows, FromOne}
use Rattle.worklists.proofs.Growing.{Grows-same, Grows-more}
use Rattle.method_graph.specs.declared.locations.Access.{Access}
use Rattle.method_graph.specs.declared.edges.Ending.{Ending}
use Rattle.method_graph.specs.Heaps.{Meet}

-- what flows from the sources that meet a target, where P says which flows there are between the two
abbrev pub FromMet : List Access → (Access → Access → Ending → Type 0) → Access → Ending → Type 0
FromMet sources P t x = (s : Access) × Contains sources s × (s.location ≡ t.location) × P s t x

-- one target more
pub met_more : (sources met targets : List Access) (P : Access → Access → Ending → Type 0) (i : ℕ) (d : Access) (old mid new : List Ending) → i < length targets
    → ((s : Access) → Contains met s ↔ (Contains sources s × (s.location ≡ (get_or targets i d).location)))
    → Grows old mid (FromOne (FromMet sources P) (take i targets)) → Grows mid new (FromOne (λ s x. P s (get_or targets i d) x) met)
    → Grows old new (FromOne (FromMet sources P) (take (i + 1) targets))
met_more sources met targets P i d old mid new lt is g h = Grows-more (FromMet sources P) targets i d old mid new lt g
    (Grows-same mid new (FromOne (λ s x. P s (get_or targets i d) x) met) (FromMet sources P (get_or targets i d))
    (λ x (s, c, p). let m = (is s).0 c in (s, m.0, m.1, p))
    (λ x (s, c, l, p). (s, (is s).1 (c, l), p)) h)

-- all targets
pub met_all : (sources targets : List Access) (P : Access → Access → Ending → Type 0) (i : ℕ) (old new : List Ending) → length targets ≤ i
    → Grows old new (FromOne (FromMet sources P) (take i targets)) → Grows old new (λ x. (s : Access) × (t : Access) × Meet sources targets s t × P s t x)
met_all sources targets P i old new le g =
    Grows-same old new (FromOne (FromMet sources P) (take i targets)) (λ x. (s : Access) × (t : Access) × Meet sources targets s t × P s t x)
    (λ x (t, c, (s, k, l, p)). (s, t, (k, subst (λ (ys : List Access). Contains ys t) all c, l), p))
    (λ x (s, t, (k, c, l), p). (t, subst (λ (ys : List Access). Contains ys t) (sym all) c, (s, k, l, p))) g
  where
    all : take i targets ≡ targets
    all = take_all i targets le

-- what holds of all holds of one that is among them
pub all_of : {X : Type 0} (P : X → Type 0) (xs : List X) → All P xs → (x : X) → Contains xs x → P x
all_of P xs all x (k, lt, is) = subst P is (all k x lt)

-- accesses of a list are at its points
pub points_within : (accesses : List (ℕ × NodeId × LocId)) (v : List Access) (points n : ℕ) → ((x : Access) → Contains v x ↔ ((y : ℕ × NodeId × LocId) × Contains accesses y × (x ≡ access_of y)))
    → ((y : ℕ × NodeId × LocId) → Contains accesses y → y.0 < points) → n ≡ points → All (λ (x : Access). x.point < n) v
points_within accesses v points n are within is k d lt =
    let m = (are (get_or v k d)).0 (Contains-get_or v k d lt) in
    let e = ap (λ (x : Access). x.point) m.2 in
    omega (arith, e, within m.0 m.1, is)
