-- How many pairs were taken up.
use Rattle.std.proofs.lemmas.List.Sums.{count_by-le-length}
use Rattle.std.proofs.Common.{ltb, ◌^◌, ◌≡◌, ◌<◌, ◌≤◌, ◌+◌, ℕ, List, Contains, ◌⊎◌, inl, inr, refl, sym, subst, ap, ◌∙◌, arith}
use Rattle.std.specs.Prelude.{Option}
use Rattle.std.proofs.lemmas.List.Elements.{All-contains}
use Rattle.bit_rows.specs.Words.{IsIn, AreWords, ones_of}
use Rattle.bit_rows.specs.Adds.{Taken}
use Rattle.bit_rows.proofs.Counting.{list_of_row}
use Rattle.slicer_ids.specs.declared.ids.NodeId.{NodeId}
use Rattle.slicer_ids.specs.declared.ids.ExitId.{ExitId}
use Rattle.slicer_ids.specs.declared.ids.Statement.{Statement}
use Rattle.dep_form.specs.declared.facts.Facts.{Facts}
use Rattle.dep_form.specs.Summaries.{IsExitAt, HasSize, PathEdges, Needed}
use Rattle.dep_form.proofs.Sizes.{no_longer}
use Rattle.tabulate.specs.declared.method.Method.{Method}
use Rattle.tabulate.specs.Frames.{node, method_of, number_of, first_exit, first, size, width}
use Rattle.tabulate.specs.Found.{Takes}
use Rattle.tabulate.proofs.Placing.{behind_first}
use Rattle.tabulate.proofs.ModeEdges.{exit_low}
use Rattle.tabulate.proofs.PairCount.{size_same, size_both, size_map}
use Rattle.widening.specs.declared.pairs.Pairs.{Pairs}
use Rattle.widening.specs.declared.expansions.Expansions.{Expansions}
use Rattle.widening.specs.Edges.{Widened, IsOpened}
use Rattle.widening.specs.Pairs.{Has, Waits, ArePairs, AreWhole, AreNeeded, AreSameTaken}
use Rattle.widening.specs.Counts.{IsCount, IsSize, AreTurns, AreWithin}
use Rattle.widening.proofs.EdgeSets.{level_home, path_of, level_of}
use Rattle.widening.proofs.PairLaws.{whole}
use Rattle.widening.proofs.Deciding.{decide}

module _ (f : Facts) where
  -- the same pairs were taken up
  pub count_same : (p p' : Pairs) (n : ℕ) → AreSameTaken f p p' → IsCount f p n → IsCount f p' n
  count_same p p' n s c = size_same (Taken (Has f p) (Waits f p)) (Taken (Has f p') (Waits f p')) n s.on s.back c

  pub turns_none : (p p' : Pairs) (t : ℕ) → AreSameTaken f p p' → AreTurns f p p' t t
  turns_none p p' t s n c = (n, count_same p p' n s c, refl)

  pub turns_then : (p p1 p2 : Pairs) (t t1 t2 : ℕ) → AreTurns f p p1 t t1 → AreTurns f p1 p2 t1 t2 → AreTurns f p p2 t t2
  turns_then p p1 p2 t t1 t2 a b n c =
      let x = a n c in
      let y = b x.0 x.1 in
      (y.0, y.1, omega (arith, x.2, y.2))

  pub turns_same : (p p1 p2 : Pairs) (t t1 t2 : ℕ) → t2 ≡ t1 → AreTurns f p p1 t t1 → AreSameTaken f p1 p2 → AreTurns f p p2 t t2
  turns_same p p1 p2 t t1 t2 e a s n c =
      let x = a n c in
      (x.0, count_same p1 p2 x.0 s x.1, omega (arith, x.2, e))

  -- whether a pair waits
  pub decide_waits : (p : Pairs) (q : ℕ × ℕ) → Waits f p q ⊎ (Waits f p q → ⊥)
  decide_waits p q = decide f p.found.items q

  -- rows are short
  pub width_small : (m : ℕ) → width f m < 2 ^ 32
  width_small m = omega (arith, f.few_exits, count_by-le-length (λ (y : NodeId). ltb y.0 (first f m + size f m)) f.exits)

  -- the bits of a node were taken up
  pub turns_taken : (p p' : Pairs) (n : NodeId) (delta : List ℕ) (t : ℕ) → AreWords delta → Takes f p.found.items p'.found.items n.0 delta → ((q : ℕ × ℕ) → Waits f p q → Has f p q) → ((q : ℕ × ℕ) → Waits f p' q ⊎ (Waits f p' q → ⊥)) → ((q : ℕ × ℕ) → Waits f p q ⊎ (Waits f p q → ⊥)) → AreTurns f p p' t (t + ones_of delta)
  turns_taken p p' n delta t words tk sub decide decide_old k c =
      let row = list_of_row delta words in
      let here : HasSize (λ (q : ℕ × ℕ). (q.0 ≡ n.0) × IsIn delta q.1) (ones_of delta) =
      size_map (λ (x : ℕ). (n.0, x)) 0 (IsIn delta) (λ (q : ℕ × ℕ). (q.0 ≡ n.0) × IsIn delta q.1) (ones_of delta) (row.0, row.1, row.2) (λ x b. (refl, b)) (λ a b x y e. ap (λ (q : ℕ × ℕ). q.1) e) (λ q b. (q.1, b.1, ap (λ (m : ℕ). (m, q.1)) (sym b.0))) in (
        k + ones_of delta,
        size_both (Taken (Has f p) (Waits f p)) (λ (q : ℕ × ℕ). (q.0 ≡ n.0) × IsIn delta q.1) (Taken (Has f p') (Waits f p')) k (ones_of delta) c here
            (λ q a b. a.1 (waited q b)) (λ q a. (tk.got q a.0, λ w. a.1 (tk.less q w))) (λ q b. (tk.got q (sub q (waited q b)), λ w. tk.gone q.1 (subst (λ (m : ℕ). Waits f p' (m, q.1)) b.0 w))) cases,
        omega arith,
      )
    where
      waited : (q : ℕ × ℕ) → (q.0 ≡ n.0) × IsIn delta q.1 → Waits f p q
      waited q b = subst (λ (m : ℕ). Waits f p (m, q.1)) (sym b.0) (tk.found q.1 b.1)

      cases : (q : ℕ × ℕ) → Taken (Has f p') (Waits f p') q → Taken (Has f p) (Waits f p) q ⊎ ((q.0 ≡ n.0) × IsIn delta q.1)
      cases q a = elim (decide_old q) [
        | inr no_wait ↦ inl (tk.back q a.0, no_wait)
        | inl w ↦ elim (tk.split q w) [ inl still ↦ absurd (a.1 still) | inr b ↦ inr b ]
      ]

  module _ (x : Expansions) (seeds : List NodeId) (ms : List (Option Method)) (p : Pairs) (s : ArePairs f (Widened f x) ms p) (need : AreNeeded f (Widened f x) seeds p.asked.items) where
    abbrev R : NodeId × ExitId → Type 0
    R = PathEdges f (IsOpened x) (Needed f (IsOpened x) (Contains seeds))

    abbrev exit_of : ℕ × ℕ → NodeId × ExitId
    exit_of q = (node q.0, record { 0 = first_exit f (method_of f q.0) + q.1 })

    sound : (q : ℕ × ℕ) → Has f p q → R (exit_of q)
    sound q g =
        let good = s.good q g in
        let l = good.level (node q.0) refl in
        let place = behind_first f good.to good.end good.exit (exit_low f good.to good.end good.exit) in
        let same : good.to.0 ≡ first_exit f (method_of f q.0) + q.1 = omega (arith, place, good.number, ap (first_exit f) (level_home f (Widened f x) s.edges l)) in
        subst (λ (k : ℕ). R (node q.0, record { 0 = k })) same ((good.end, good.exit, need good.to good.end good.was_asked good.exit), good.end, good.exit, path_of (Widened f x) (node q.0) good.end l)

    one : (a b : ℕ × ℕ) → exit_of a ≡ exit_of b → a ≡ b
    one a b e =
        let n : a.0 ≡ b.0 = ap (λ (y : NodeId × ExitId). y.0.0) e in
        let k : first_exit f (method_of f a.0) + a.1 ≡ first_exit f (method_of f b.0) + b.1 = ap (λ (y : NodeId × ExitId). y.1.0) e in
        let m : a.1 ≡ b.1 = omega (arith, k, ap (λ (j : ℕ). first_exit f (method_of f j)) n) in
        ap (λ (j : ℕ). (j, a.1)) n ∙ ap (λ (j : ℕ). (b.0, j)) m

    -- no more pairs were taken up than there are path edges
    pub count_within : (n m : ℕ) → IsCount f p n → IsSize f (IsOpened x) seeds m → n ≤ m
    count_within n m c size =
        let image = size_map exit_of (0, 0) (Taken (Has f p) (Waits f p)) (λ y. (q : ℕ × ℕ) × Taken (Has f p) (Waits f p) q × (exit_of q ≡ y)) n c (λ q t. (q, t, refl)) (λ a b t u e. one a b e) (λ y h. h) in
        let le = no_longer image.0 size.0 image.1.once (λ y i. let h = All-contains (λ y. (q : ℕ × ℕ) × Taken (Has f p) (Waits f p) q × (exit_of q ≡ y)) image.0 y image.1.each i in size.1.whole y (subst R h.2 (sound h.0 h.1.0))) in
        omega (arith, le, image.2, size.2)

    -- all path edges were taken up
    pub count_is_size : AreWhole f (Widened f x) ms p → ((q : ℕ × ℕ) → Waits f p q → ⊥) → ((d : ExitId) → Needed f (IsOpened x) (Contains seeds) d → Contains p.asked.items d) → (n : ℕ) → IsCount f p n → IsSize f (IsOpened x) seeds n
    count_is_size w idle asked n c = size_map exit_of (0, 0) (Taken (Has f p) (Waits f p)) R n c (λ q t. sound q t.0) (λ a b t u e. one a b e) (λ y h. from y.0 y.1 h)
      where
        from : (m : NodeId) (d : ExitId) → R (m, d) → (q : ℕ × ℕ) × Taken (Has f p) (Waits f p) q × (exit_of q ≡ (m, d))
        from m d h =
            let y : NodeId = h.1 in
            let at : IsExitAt f d y = h.2 in
            let l = level_of (Widened f x) m y h.3 in
            let got = whole f (Widened f x) s.edges (Has f p) w.done (number_of f y.0) l (s.begun d y (asked d h.0) at) in
            let place : first_exit f (method_of f m.0) + number_of f y.0 ≡ d.0 = omega (arith, behind_first f d y at (exit_low f d y at), ap (first_exit f) (level_home f (Widened f x) s.edges l)) in
            ((m.0, number_of f y.0), (got, idle (m.0, number_of f y.0)), ap (λ (k : ℕ). (m, record { 0 = k })) place)

    -- no more turns were taken than up to the number of path edges
    pub within_of : (p0 : Pairs) (t0 t : ℕ) → AreTurns f p0 p t0 t → AreWithin f (IsOpened x) seeds p0 t0 t
    within_of p0 t0 t turns n m c size =
        let k = turns n c in
        omega (arith, k.2, count_within k.0 m k.1 size)

-- turns of one step, and then at most those of another
pub within_then : (f : Facts) (X : Statement → Type 0) (seeds : List NodeId) (p p1 : Pairs) (t t1 t2 : ℕ) → AreTurns f p p1 t t1 → AreWithin f X seeds p1 t1 t2 → AreWithin f X seeds p t t2
within_then f X seeds p p1 t t1 t2 a b n m c size =
    let k = a n c in
    omega (arith, k.2, b k.0 m k.1 size)

-- no turn was taken
pub within_same : (f : Facts) (x : Expansions) (seeds : List NodeId) (ms : List (Option Method)) (p : Pairs) (t : ℕ) → ArePairs f (Widened f x) ms p → AreNeeded f (Widened f x) seeds p.asked.items → AreWithin f (IsOpened x) seeds p t t
within_same f x seeds ms p t s need n m c size = omega (arith, count_within f x seeds ms p s need n m c size)
