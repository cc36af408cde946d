-- The walk of two phases finds the slice: each pair has its path, and each path is walked.
use Rattle.std.proofs.Common.{◌≡◌, ℕ, ◌+◌, ◌<◌, ◌≤◌, true, false, List, [], length, get_or, take, Contains, ◌⊎◌, inl, inr, refl, sym, ap, subst, arith}
use Rattle.std.specs.Prelude.{All}
use Rattle.std.proofs.lemmas.Bool.{eqb-true}
use Rattle.std.proofs.lemmas.List.{take_more}
use Rattle.std.proofs.lemmas.List.Elements.{Contains-push_cases, All-contains}
use Rattle.slicer_ids.specs.declared.ids.NodeId.{NodeId}
use Rattle.dep_form.specs.declared.node.Edge.{Edge}
use Rattle.dep_form.specs.declared.node.Label.{Label}
use Rattle.dep_form.specs.declared.node.Label.TheVariants.{Thin, Base, Call, Return}
use Rattle.dep_form.specs.Paths.{IsInSlice, IsPath, IsSameLevel, HasRealizablePath, after}
use Rattle.dep_form.specs.Phases.{edge, Level, stay, Down, level, enter, GoesUpThenDown, down, leave}
use Rattle.dep_form.proofs.Levels.{closes, listed, some_from}
use Rattle.dep_form.proofs.Realizable.{leaves, reads_up, down_from, up_from, level_then}
use Rattle.worklists.specs.Growth.{Grows, FromOne, Meets}
use Rattle.worklists.proofs.Growing.{Grows-kept, Grows-none}
use Rattle.worklists.proofs.Closing.{Closing, taken_all}
use Rattle.plain_slice.specs.declared.table.Pair.{Pair}
use Rattle.plain_slice.specs.Tables.{IsBelow, pair}
use Rattle.plain_slice.specs.Rules.{AreLevels, node, may_go, Turns, Leaves}

-- the node leads to the seed, as the phase allows
abbrev pub ByPhase : (Edge → Type 0) → ℕ → NodeId → NodeId → Type 0
ByPhase E phase n s = ((phase ≡ 0) × Down E n s) ⊎ ((phase ≡ 1) × GoesUpThenDown E n s)

abbrev pub Good : List Edge → List NodeId → Pair → Type 0
Good edges seeds p = (s : NodeId) × Contains seeds s × ByPhase (Contains edges) p.place (node p.node) s

before : (E : Edge → Type 0) (phase : ℕ) (n a s : NodeId) → Level E a n → ByPhase E phase n s → ByPhase E phase a s
before E phase n a s x (inl h) = inl (h.0, down_from E n a s (λ c y. level_then E c x y) h.1)
before E phase n a s x (inr h) = inr (h.0, up_from E n a s (λ c y. level_then E c x y) h.1)

goes : (E : Edge → Type 0) (l : Label) (phase : ℕ) (a n s : NodeId) → E (edge a l n) → may_go phase l ≡ true → ByPhase E phase n s → ByPhase E phase a s
goes E Thin phase a n s e may h = absurd cc
goes E Base phase a n s e may h = absurd cc
goes E (Call k) phase a n s e may (inl h) = inl (h.0, enter stay e h.1)
goes E (Call k) phase a n s e may (inr h) = absurd (omega (arith, eqb-true phase 0 may, h.0))
goes E (Return k) phase a n s e may (inl h) = absurd (omega (arith, eqb-true phase 1 may, h.0))
goes E (Return k) phase a n s e may (inr h) = inr (h.0, leave stay e h.1)

turns : (E : Edge → Type 0) (p q : Pair) (s : NodeId) → Turns p q → ByPhase E p.place (node p.node) s → ByPhase E q.place (node q.node) s
turns E p q s is (inl h) = rw is.1 (inr (refl, down h.1))
turns E p q s is (inr h) = absurd (omega (arith, eqb-true p.place 0 is.0, h.0))

level_of : (edges : List Edge) (a b : NodeId) → (es : List Edge) × IsPath (Contains edges) a es b × IsSameLevel es → Level (Contains edges) a b
level_of edges a b p = closes (Contains edges) p.0 [] a b p.1 p.2

pub by_one : (size : ℕ) (edges : List Edge) (levels : List Pair) (seeds : List NodeId) → AreLevels size edges levels → (p q : Pair) → Good edges seeds p → Leaves edges levels p q → Good edges seeds q
by_one size edges levels seeds sums p q h (inl (inl f)) =
    let e = f.0 in
    (h.0, h.1, rw f.2.2 (goes (Contains edges) e.label p.place e.from (node p.node) h.0 (subst (λ n. Contains edges (edge e.from e.label n)) (ap node f.2.1) f.1) f.2.0 h.2))
by_one size edges levels seeds sums p q h (inl (inr f)) =
    let l = f.0 in
    let lt : l.place < size = (All-contains (IsBelow size) levels l sums.below f.1).1 in
    let path = level_of edges (node l.node) (node l.place) ((sums.exact l.node l.place lt).0 f.1) in
    (h.0, h.1, rw f.2.1 (before (Contains edges) p.place (node p.node) (node l.node) h.0 (subst (λ n. Level (Contains edges) (node l.node) (node n)) f.2.0 path) h.2))
by_one size edges levels seeds sums p q h (inr is) = (h.0, h.1, turns (Contains edges) p q h.0 is h.2)

abbrev pub Never : Pair → Pair → Pair → Type 0
Never p q r = ⊥

abbrev pub AreThere : List NodeId → List Pair → Type 0
AreThere seeds pairs = (s : NodeId) → Contains seeds s → Contains pairs (pair s.0 0)

module _ (size : ℕ) (edges : List Edge) (levels : List Pair) (seeds : List NodeId) (sums : AreLevels size edges levels) (next : ℕ) (pairs : List Pair) (le : length pairs ≤ next)
    (below : All (IsBelow size) pairs) (t : Closing (Good edges seeds) (Leaves edges levels) Never next pairs) where
  step : (n phase : ℕ) (q : Pair) → Contains pairs (pair n phase) → Leaves edges levels (pair n phase) q → Contains pairs q
  step n phase q c h = t.one (pair n phase) q (taken_all next pairs le (pair n phase) c) h

  level_found : (phase : ℕ) (a b : NodeId) → Level (Contains edges) a b → Contains pairs (pair b.0 phase) → Contains pairs (pair a.0 phase)
  level_found phase a b x c =
      let lt : b.0 < size = (All-contains (IsBelow size) pairs (pair b.0 phase) below c).0 in
      let r = listed (Contains edges) x in
      step b.0 phase (pair a.0 phase) c (inl (inr (pair a.0 b.0, (sums.exact a.0 b.0 lt).1 (r.0, r.1, r.2 false []), (refl, refl))))

  down_found : {a s : NodeId} → Down (Contains edges) a s → Contains pairs (pair s.0 0) → Contains pairs (pair a.0 0)
  down_found (level {a} {b} x) c = level_found 0 a b x c
  down_found (enter {a} {b} {c} {d} {k} x e y) there =
      level_found 0 a b x (step c.0 0 (pair b.0 0) (down_found y there) (inl (inl (edge b (Call k) c, e, (refl, refl, refl)))))

  up_found : {a s : NodeId} → GoesUpThenDown (Contains edges) a s → Contains pairs (pair s.0 0) → Contains pairs (pair a.0 1)
  up_found (down {a} x) c = step a.0 0 (pair a.0 1) (down_found x c) (inr (refl, refl))
  up_found (leave {a} {b} {c} {d} {k} x e y) there =
      level_found 1 a b x (step c.0 1 (pair b.0 1) (up_found y there) (inl (inl (edge b (Return k) c, e, (refl, refl, refl)))))

  pub is_slice : AreThere seeds pairs → (n : ℕ) → (Contains pairs (pair n 1) → IsInSlice (Contains edges) (Contains seeds) (node n)) × (IsInSlice (Contains edges) (Contains seeds) (node n) → Contains pairs (pair n 1))
  is_slice there n = (λ c. let h = t.each (pair n 1) c in (h.0, h.1, path h.0 h.2), λ h. let s = some_from (after true [] h.2.0) h.2.2 in up_found (leaves (Contains edges) h.2.0 [] s.0 (node n) h.0 h.2.1 s.1) (there h.0 h.1))
    where
      path : (s : NodeId) → ByPhase (Contains edges) 1 (node n) s → HasRealizablePath (Contains edges) (node n) s
      path s (inl h) = absurd (omega (arith, h.0))
      path s (inr h) = let r = reads_up (Contains edges) h.1 in let last = r.2 [] refl in (r.0, r.1, rw last.1 refl)

-- ---- the seeds
pub none_yet : (edges : List Edge) (levels : List Pair) (seeds : List NodeId) → Closing (Good edges seeds) (Leaves edges levels) Never 0 []
none_yet edges levels seeds = record {
  each = λ p c. absurd (omega (arith, c.1));
  one = λ p q c h. absurd (omega (arith, c.1));
  two = λ p q r c d h. absurd h;
  within = omega arith;
}

pub seed_closes : (edges : List Edge) (levels : List Pair) (seeds : List NodeId) (seed : NodeId) (old new : List Pair) → Contains seeds seed → Grows old new (λ p. p ≡ pair seed.0 0) → Closing (Good edges seeds) (Leaves edges levels) Never 0 old → Closing (Good edges seeds) (Leaves edges levels) Never 0 new
seed_closes edges levels seeds seed old new there grown t = record {
  each = λ p c. elim (grown.only p c) [ inl o ↦ t.each p o | inr is ↦ rw is (seed, there, inl (refl, level stay)) ];
  one = λ p q c h. absurd (omega (arith, c.1));
  two = λ p q r c d h. absurd h;
  within = omega arith;
}

pub seed_there : (seeds : List NodeId) (i : ℕ) (d : NodeId) (old new : List Pair) → i < length seeds → Grows old new (λ p. p ≡ pair (get_or seeds i d).0 0) → AreThere (take i seeds) old → AreThere (take (i + 1) seeds) new
seed_there seeds i d old new lt grown t s c =
    elim (Contains-push_cases (take i seeds) (get_or seeds i d) s (subst (λ (xs : List NodeId). Contains xs s) (take_more seeds i d lt) c)) [
      | inl o ↦ Grows-kept old new (λ p. p ≡ pair (get_or seeds i d).0 0) grown (pair s.0 0) (t s o)
      | inr is ↦ grown.all (pair s.0 0) (ap (λ (n : NodeId). pair n.0 0) (sym is))
    ]

pub still_there : (seeds : List NodeId) (old new : List Pair) (P : Pair → Type 0) → Grows old new P → AreThere seeds old → AreThere seeds new
still_there seeds old new P g t s c = Grows-kept old new P g (pair s.0 0) (t s c)

pub no_more : (x : Pair) (n : ℕ) (pairs : List Pair) → Grows pairs pairs (FromOne (Meets Never x) (take n pairs))
no_more x n pairs = Grows-none pairs (FromOne (Meets Never x) (take n pairs)) (λ p f. elim f.2 [ inl h ↦ h | inr h ↦ h ])
