-- Nodes that stand for locations.
use Rattle.std.proofs.Common.{◌≡◌, ◌<◌, ◌≤◌, ◌+◌, ◌-◌, ℕ, List, [], length, get_or, Contains, Some, inl, inr, refl, sym, ap, subst, ◌∙◌, arith}
use Rattle.std.specs.Prelude.{slice_get, ◌↔◌}
use Rattle.std.proofs.lemmas.Option.{slice_get_within, slice_get-get_or, get_or_from_slice_get}
use Rattle.slicer_ids.specs.declared.ids.LocId.{LocId}
use Rattle.worklists.specs.Growth.{Grows}
use Rattle.worklists.proofs.Growing.{FromBelow, Grows-same, Grows-next}
use Rattle.dep_form.specs.declared.node.Node.{Node}
use Rattle.dep_form.specs.declared.node.Node.TheVariants.{HeapIn, HeapOut}
use Rattle.method_graph.specs.declared.locations.Access.{Access}
use Rattle.method_graph.specs.Accesses.{IsHead}

abbrev location_of : Node → LocId
location_of (HeapIn l) = l
location_of (HeapOut l) = l
location_of k = record { 0 = 0 }

pub in_one : (a b : LocId) → HeapIn a ≡ HeapIn b → a ≡ b
in_one a b e = ap location_of e

pub out_one : (a b : LocId) → HeapOut a ≡ HeapOut b → a ≡ b
out_one a b e = ap location_of e

same_access : (a b : Access) → a.location ≡ b.location → a.point ≡ b.point → a.node.0 ≡ b.node.0 → a ≡ b
same_access a b l p n = let m : a.node ≡ b.node = ap (λ (k : ℕ). record { 0 = k }) n in rw (← l, ← p, ← m) refl

module _ (K : LocId → Node) (one : (a b : LocId) → K a ≡ K b → a ≡ b) where
  pub head_added : (node : Node) (location : LocId) (number : ℕ) (h : Access) (old new : List Access) → node ≡ K location → (h.location ≡ location) × (h.node.0 ≡ number) × (h.point ≡ 0)
      → Grows old new (λ x. x ≡ h) → Grows old new (λ x. (node ≡ K x.location) × (x.node.0 ≡ number) × (x.point ≡ 0))
  head_added node location number h old new is (l, n, p) g = Grows-same old new (λ x. x ≡ h) (λ x. (node ≡ K x.location) × (x.node.0 ≡ number) × (x.point ≡ 0))
      (λ x e. (is ∙ ap K (sym (ap (λ (y : Access). y.location) e ∙ l)), ap (λ (y : Access). y.node.0) e ∙ n, ap (λ (y : Access). y.point) e ∙ p))
      (λ x (k, m, q). same_access x h (one x.location h.location (sym k ∙ is ∙ ap K (sym l))) (q ∙ sym p) (m ∙ sym n)) g

  abbrev pub HeadAt : ℕ → List Node → ℕ → Access → Type 0
  HeadAt first nodes k x = (slice_get nodes k ≡ Some (K x.location)) × (x.node.0 ≡ first + k) × (x.point ≡ 0)

  pub heads_more : (first : ℕ) (nodes : List Node) (k : ℕ) (d : Node) (old mid new : List Access) → k < length nodes → Grows old mid (FromBelow (HeadAt first nodes) k)
      → Grows mid new (λ x. (get_or nodes k d ≡ K x.location) × (x.node.0 ≡ first + k) × (x.point ≡ 0)) → Grows old new (FromBelow (HeadAt first nodes) (k + 1))
  heads_more first nodes k d old mid new lt g h = Grows-next (HeadAt first nodes) k old mid new g
      (Grows-same mid new (λ x. (get_or nodes k d ≡ K x.location) × (x.node.0 ≡ first + k) × (x.point ≡ 0)) (HeadAt first nodes k)
      (λ x (e, r, p). (slice_get-get_or nodes k d lt ∙ ap (λ (y : Node). Some y) e, r, p))
      (λ x (e, r, p). (get_or_from_slice_get nodes k (K x.location) d e, r, p)) h)

  pub heads_are : (first : ℕ) (nodes : List Node) (n : ℕ) (new : List Access) → length nodes ≤ n → Grows [] new (FromBelow (HeadAt first nodes) n) → (x : Access) → Contains new x ↔ IsHead K first nodes x
  heads_are first nodes n new le g x = (
    λ c. elim (g.only x c) [
      | inl o ↦ absurd (omega (arith, o.1))
      | inr (k, lt, (e, r, p)) ↦ let at : k ≡ x.node.0 - first = omega (arith, r) in (omega (arith, r), subst (λ j. slice_get nodes j ≡ Some (K x.location)) at e, p)
    ],
    λ (low, e, p). let w = slice_get_within nodes (x.node.0 - first) (K x.location) e in g.all x (x.node.0 - first, omega (arith, w, le), (e, omega (arith, low), p)),
  )
