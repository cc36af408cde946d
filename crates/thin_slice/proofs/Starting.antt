-- A walk at its start, and between its calls.
use Rattle.std.proofs.Common.{◌≡◌, ◌<◌, ◌≤◌, ◌+◌, ℕ, List, [], ◌++◌, ◌∷◌, length, take, get_or, Contains, ◌⊎◌, sym, ap, subst, ◌∙◌, inl, inr, length-append, arith}
use Rattle.std.proofs.lemmas.List.{take_more, take_all, take-append-le}
use Rattle.std.proofs.lemmas.List.Elements.{Contains-append_left, Contains-push, Contains-push_cases}
use Rattle.slicer_ids.specs.declared.ids.NodeId.{NodeId}
use Rattle.slicer_ids.specs.declared.ids.MethodId.{MethodId}
use Rattle.slicer_ids.specs.declared.ids.ExitId.{ExitId}
use Rattle.dep_form.specs.declared.node.Edge.{Edge}
use Rattle.dep_form.specs.declared.facts.Facts.{Facts}
use Rattle.dep_form.specs.Phases.{level, stay}
use Rattle.worklists.specs.Growth.{Grows}
use Rattle.worklists.proofs.Growing.{Grows-then}
use Rattle.thin_slice.specs.declared.needs.Phase.TheVariants.{Up}
use Rattle.thin_slice.specs.declared.walk.Walk.{Walk}
use Rattle.thin_slice.specs.Walks.{IsUp, IsDown, IsTaken, AreServed, IsFresh, nodes_of}
use Rattle.thin_slice.proofs.Phasing.{in_front, on_from_down}

pub seed_more : (seeds : List NodeId) (i : ℕ) (d : NodeId) (old mid new : List NodeId) → i < length seeds → Grows old mid (Contains (take i seeds)) → Grows mid new (λ q. q ≡ get_or seeds i d) → Grows old new (Contains (take (i + 1) seeds))
seed_more seeds i d old mid new lt g h = subst (λ (xs : List NodeId). Grows old new (Contains xs)) (sym (take_more seeds i d lt)) (Grows-then old mid new (Contains (take i seeds)) (λ q. q ≡ get_or seeds i d) (Contains (take i seeds ++ get_or seeds i d ∷ [])) to from g h)
  where
    to : (q : NodeId) → Contains (take i seeds ++ get_or seeds i d ∷ []) q → Contains (take i seeds) q ⊎ (q ≡ get_or seeds i d)
    to q c = elim (Contains-push_cases (take i seeds) (get_or seeds i d) q c) [ inl o ↦ inl o | inr is ↦ inr (sym is) ]

    from : (q : NodeId) → Contains (take i seeds) q ⊎ (q ≡ get_or seeds i d) → Contains (take i seeds ++ get_or seeds i d ∷ []) q
    from q (inl c) = Contains-append_left (take i seeds) (get_or seeds i d ∷ []) q c
    from q (inr is) = subst (λ y. Contains (take i seeds ++ get_or seeds i d ∷ []) y) (sym is) (Contains-push (take i seeds) (get_or seeds i d))

-- all that was found at the start are the seeds
pub starts_up : (E : Edge → Type 0) (nodes : List NodeId) (count : ℕ) → length nodes ≤ count → IsUp E (take count nodes) 0 nodes
starts_up E nodes count le = record {
  there = λ s c. in_front count nodes s c;
  up = record {
    each = λ n c. (n, subst (λ (xs : List NodeId). Contains xs n) (sym (take_all count nodes le)) c, level stay);
    steps = λ n q c h. absurd (omega (arith, c.1));
    within = omega arith;
  };
}

pub from_nothing : (start old new seeds : List NodeId) → start ≡ [] → old ≡ start → Grows old new (Contains seeds) → (n : NodeId) → (Contains new n → Contains seeds n) × (Contains seeds n → Contains new n)
from_nothing start old new seeds none same g n = (
  λ c. elim (g.only n c) [ inl o ↦ let bad : Contains [] n = subst (λ (xs : List NodeId). Contains xs n) (same ∙ none) o in absurd (omega (arith, bad.1)) | inr s ↦ s ],
  λ s. g.all n s,
)

-- the seeds stay in front
pub seeds_stay : (k : ℕ) (old new : List NodeId) → k ≤ length old → (more : List NodeId) × (new ≡ old ++ more) → take k new ≡ take k old
seeds_stay k old new le f = ap (take k) f.1 ∙ take-append-le k old f.0 le

pub seeds_within : (k : ℕ) (old new : List NodeId) → k ≤ length old → (more : List NodeId) × (new ≡ old ++ more) → k ≤ length new
seeds_within k old new le f = omega (arith, le, ap length f.1, length-append old f.0)

-- the first phase is over: all its nodes were taken up
pub turns_down : (E : Edge → Type 0) (seeds nodes : List NodeId) (ups : ℕ) → length nodes ≡ ups → IsUp E seeds ups nodes → IsDown E seeds ups 0 nodes
turns_down E seeds nodes ups all t =
    let le : length nodes ≤ ups = omega (arith, all) in
    record {
      first = subst (λ (xs : List NodeId). IsUp E seeds ups xs) (sym (take_all ups nodes le)) t;
      down = record {
        each = λ n c. on_from_down E seeds n (t.up.each n c);
        steps = λ n q c h. absurd (omega (arith, c.1));
        within = omega arith;
      };
      within = omega (arith, all);
    }

-- a walk that was just started has come by nothing
pub fresh_served : (f : Facts) (Seen : MethodId → Type 0) (Known : ExitId → Type 0) (w : Walk) → IsFresh w → AreServed f Seen Known w
fresh_served f Seen Known w h n t =
    let up : IsTaken Up w.ups w.next (nodes_of w) n = subst (λ p. IsTaken p w.ups w.next (nodes_of w) n) h.0 t in
    let none : Contains (take 0 (nodes_of w)) n = subst (λ k. Contains (take k (nodes_of w)) n) h.1 up in
    absurd (omega (arith, none.1))
