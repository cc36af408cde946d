-- Steps that are followed until nothing is new.
use Rattle.std.proofs.Common.{◌≡◌, ℕ, ◌+◌, ◌-◌, ◌*◌, ◌/◌, ◌<◌, ◌≤◌, ◌⊎◌, ◌↔◌, inl, inr, Bool, true, false, ◌||◌, List, [], ◌∷◌, length, get_or, refl, sym, subst, arith}
use Rattle.std.proofs.lemmas.Bool.{cases_lt}
use Rattle.slicer_ids.specs.Walks.{IsWalk, LeadsOn}
use Rattle.method_graph.specs.Flows.{Goes, HasWay, AreWays, Follows, Adds, AreSteps}

-- a step, and what follows its end, are ways
pub follow_sound : (flow : List (ℕ × ℕ)) (width : ℕ) (words one new : List ℕ) (p q : ℕ) → q / 64 < width → Goes flow p q
    → ((a b : ℕ) → b / 64 < width → HasWay width one a b ↔ (HasWay width words a b ⊎ ((a ≡ p) × (b ≡ q))))
    → ((a b : ℕ) → b / 64 < width → HasWay width new a b ↔ (HasWay width one a b ⊎ ((a ≡ p) × HasWay width one q b)))
    → AreWays flow width words → AreWays flow width new
follow_sound flow width words one new p q within goes added poured sound a b lt h = elim ((poured a b lt).0 h) [
  | inl w ↦ first a b lt w
  | inr (is, w) ↦ subst (λ n. LeadsOn (Goes flow) n b) (sym is) (on_from (first q b lt w))
]
  where
    first : (x y : ℕ) → y / 64 < width → HasWay width one x y → LeadsOn (Goes flow) x y
    first x y l w = elim ((added x y l).0 w) [ inl had ↦ sound x y l had | inr (i, j) ↦ (q, subst (λ n. Goes flow n q) (sym i) goes, ([], sym j)) ]

    on_from : LeadsOn (Goes flow) q b → LeadsOn (Goes flow) p b
    on_from (x, r, (xs, w)) = (q, goes, (x ∷ xs, (r, w)))

-- where nothing changed, the step's ways are there
pub follow_quiet : (width : ℕ) (words one new : List ℕ) (p q : ℕ) (x y : Bool) → q / 64 < width → (x || y) ≡ false
    → ((a b : ℕ) → b / 64 < width → HasWay width one a b ↔ (HasWay width words a b ⊎ ((a ≡ p) × (b ≡ q))))
    → ((a b : ℕ) → b / 64 < width → HasWay width new a b ↔ (HasWay width one a b ⊎ ((a ≡ p) × HasWay width one q b)))
    → Adds one new y → Follows width new p q
follow_quiet width words one new p q true y within e added poured a = absurd cc
follow_quiet width words one new p q false y within e added poured a =
    let there = (added p q within).1 (inr (refl, refl)) in
    let same = a.same e in
    ((poured p q within).1 (inl there), λ b lt h. (poured p b lt).1 (inr (refl, subst (λ ws. HasWay width ws q b) same h)))

-- one more step of a round
pub round_more : (flow : List (ℕ × ℕ)) (width : ℕ) (old mid new : List ℕ) (x y : Bool) (done : ℕ) → done < length flow
    → Adds old mid x → Adds mid new y
    → (x ≡ false → (j : ℕ) (d : ℕ × ℕ) → length flow - done ≤ j → j < length flow → Follows width mid (get_or flow j d).0 (get_or flow j d).1)
    → (y ≡ false → (d : ℕ × ℕ) → Follows width new (get_or flow (length flow - 1 - done) d).0 (get_or flow (length flow - 1 - done) d).1)
    → (y || x) ≡ false → (j : ℕ) (d : ℕ × ℕ) → length flow - (done + 1) ≤ j → j < length flow → Follows width new (get_or flow j d).0 (get_or flow j d).1
round_more flow width old mid new x true done lt a b before here e j d low high = absurd cc
round_more flow width old mid new x false done lt a b before here e j d low high = elim (cases_lt j (length flow - done)) [
  | inr above ↦ subst (λ ws. Follows width ws (get_or flow j d).0 (get_or flow j d).1) (sym (b.same refl)) (before e j d above high)
  | inl below ↦
      let is : length flow - 1 - done ≡ j = omega arith in
      subst (λ n. Follows width new (get_or flow n d).0 (get_or flow n d).1) is (here refl d)
]

-- each way is there where each step's ways are
pub ways_there : (flow : List (ℕ × ℕ)) (points width : ℕ) (words : List ℕ) → AreSteps points flow → points ≤ 64 * width
    → ((p q : ℕ) → Goes flow p q → Follows width words p q) → (p q : ℕ) → LeadsOn (Goes flow) p q → HasWay width words p q
ways_there flow points width words steps wide follows p q (x, r, (xs, w)) = from xs p x r w
  where
    within : (a b : ℕ) → Goes flow a b → b / 64 < width
    within a b (k, lt, is) = let s = steps k (a, b) lt in let b_in : b < points = subst (λ (t : ℕ × ℕ). t.1 < points) is s.1 in omega (arith, b_in, wide)

    ends : (ys : List ℕ) (a y : ℕ) → Goes flow a y → IsWalk (Goes flow) y ys q → q / 64 < width
    ends [] a y g e = subst (λ n. n / 64 < width) e (within a y g)
    ends (z ∷ ys) a y g (s, v) = ends ys y z s v

    from : (ys : List ℕ) (a y : ℕ) → Goes flow a y → IsWalk (Goes flow) y ys q → HasWay width words a q
    from [] a y g e = subst (λ n. HasWay width words a n) e (follows a y g).0
    from (z ∷ ys) a y g (s, v) = (follows a y g).1 q (ends ys y z s v) (from ys y z s v)
