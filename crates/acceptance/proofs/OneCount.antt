-- A set has one size, and what is added up over it has one sum.
use Rattle.std.proofs.Common.{◌≡◌, ◌≢◌, ◌<◌, ◌≤◌, ◌+◌, ◌-◌, ◌*◌, ℕ, suc, List, [], ◌∷◌, length, get_or, sum_by, Contains, refl, sym, ap, subst, ◌∙◌, inl, inr, arith}
use Rattle.std.specs.Prelude.{◌/◌, AllPairs, remove}
use Rattle.std.proofs.lemmas.Bool.{cases_lt}
use Rattle.std.proofs.lemmas.Option.{slice_get-get_or}
use Rattle.std.proofs.lemmas.List.Edits.{length-remove, get_or-remove_below, get_or-remove_above}
use Rattle.std.proofs.lemmas.List.Sums.{sum_by-remove, sum_by-cons}
use Rattle.std.proofs.lemmas.List.Elements.{All-contains}
use Rattle.slicer_ids.specs.Sets.{IsListOf}
use Rattle.dep_form.specs.Summaries.{HasSize}
use Rattle.dep_form.proofs.Sizes.{one_length, stays}
use Rattle.program_form.specs.Programs.{Program}
use Rattle.program_form.specs.Nodes.{Node}
use Rattle.fact_form.specs.FactLimits.{IsFormalOf, IsExit, AreWidths, IsMemoSize}

pub one_size : {A : Type 0} (P : A → Type 0) (n k : ℕ) → HasSize P n → HasSize P k → n ≡ k
one_size P n k (xs, is, e) (ys, as', f) = e ∙ one_length P xs ys is as' ∙ sym f

-- NUMBERS OF THE ITEMS OF A LIST

module _ {A : Type 0} (W : A → ℕ → Type 0) where
  -- the numbers of the items, one each
  abbrev AreOf : List A → List ℕ → Type 0
  AreOf xs ws = (length xs ≡ length ws) × ((i : ℕ) (a : A) (w : ℕ) → i < length xs → W (get_or xs i a) (get_or ws i w))

  tails : (x : A) (xs : List A) (w : ℕ) (ws : List ℕ) → AreOf (x ∷ xs) (w ∷ ws) → AreOf xs ws
  tails x xs w ws h = (omega (arith, h.0), λ i a v lt. h.1 (suc i) a v (omega (arith, lt)))

  removed : (xs : List A) (ws : List ℕ) (k : ℕ) → k < length xs → AreOf xs ws → AreOf (remove xs k) (remove ws k)
  removed xs ws k lt h =
      let long = length-remove xs k lt in
      let wide = length-remove ws k (omega (arith, h.0, lt)) in (
        omega (arith, h.0, long, wide),
        λ i a w le. elim (cases_lt i k) [
          | inl below ↦
              subst (λ z. W z (get_or (remove ws k) i w)) (sym (get_or-remove_below xs k a i below lt))
              (subst (λ z. W (get_or xs i a) z) (sym (get_or-remove_below ws k w i below (omega (arith, h.0, lt)))) (h.1 i a w (omega (arith, long, le))))
          | inr above ↦
              subst (λ z. W z (get_or (remove ws k) i w)) (sym (get_or-remove_above xs k a i above lt))
              (subst (λ z. W (get_or xs (i + 1) a) z) (sym (get_or-remove_above ws k w i above (omega (arith, h.0, lt)))) (h.1 (i + 1) a w (omega (arith, long, le))))
        ],
      )

  -- where an item has one number, a list without repeats has no greater sum than one with all its items
  sum_below : (f : ℕ → ℕ) → ((a : A) (v w : ℕ) → W a v → W a w → v ≡ w) → (xs ys : List A) (vs ws : List ℕ) → AllPairs (λ x y. x ≢ y) xs
      → ((x : A) → Contains xs x → Contains ys x) → AreOf xs vs → AreOf ys ws → sum_by f vs ≤ sum_by f ws
  sum_below f one [] ys [] ws once sub h g = omega arith
  sum_below f one [] ys (v ∷ vs) ws once sub h g = absurd (omega (arith, h.0))
  sum_below f one (x ∷ xs) ys [] ws once sub h g = absurd (omega (arith, h.0))
  sum_below f one (x ∷ xs) ys (v ∷ vs) ws once sub h g =
      let c = sub x (0, omega arith, refl) in
      let same : v ≡ get_or ws c.0 v = one x v (get_or ws c.0 v) (h.1 0 x v (omega arith)) (subst (λ z. W z (get_or ws c.0 v)) c.2 (g.1 c.0 x v c.1)) in
      let rest = sum_below f one xs (remove ys c.0) vs (remove ws c.0) (λ i j d lt within. once (suc i) (suc j) d (omega arith) (omega arith))
      (λ z e. stays ys c.0 x z c.1 c.2 (sub z (suc e.0, omega (arith, e.1), e.2)) (λ q. once 0 (suc e.0) z (omega arith) (omega (arith, e.1)) (q ∙ sym e.2)))
      (tails x xs v vs h) (removed ys ws c.0 c.1 g) in
      omega (arith, rest, sum_by-remove f ws c.0 v (omega (arith, g.0, c.1)), ap f same, sum_by-cons f v vs)

  one_sum : (f : ℕ → ℕ) → ((a : A) (v w : ℕ) → W a v → W a w → v ≡ w) → (P : A → Type 0) (xs ys : List A) (vs ws : List ℕ) → IsListOf xs P → IsListOf ys P
      → AreOf xs vs → AreOf ys ws → sum_by f vs ≡ sum_by f ws
  one_sum f one P xs ys vs ws p q h g =
      let a = sum_below f one xs ys vs ws p.once (λ x c. q.whole x (All-contains P xs x p.each c)) h g in
      let b = sum_below f one ys xs ws vs q.once (λ x c. p.whole x (All-contains P ys x q.each c)) g h in
      omega (arith, a, b)

-- THE WORDS OF SUMMARIES

abbrev HasWidth : Program → Node → ℕ → Type 0
HasWidth p a w = (n : ℕ) × HasSize (IsFormalOf p a.method) n × (w ≡ (n + 63) / 64)

one_width : (p : Program) (a : Node) (v w : ℕ) → HasWidth p a v → HasWidth p a w → v ≡ w
one_width p a v w (n, is, e) (k, as', f) = e ∙ ap (λ z. (z + 63) / 64) (one_size (IsFormalOf p a.method) n k is as') ∙ sym f

are_of : (p : Program) (exits : List Node) (widths : List ℕ) → AreWidths p exits widths → AreOf (HasWidth p) exits widths
are_of p exits widths h = (h.size, λ i a w lt. h.each i (get_or exits i a) (get_or widths i w) (slice_get-get_or exits i a lt) (slice_get-get_or widths i w (omega (arith, lt, h.size))))

pub one_memo_size : (p : Program) (n k : ℕ) → IsMemoSize p n → IsMemoSize p k → n ≡ k
one_memo_size p n k (xs, vs, is, h, e) (ys, ws, as', g, f) =
    e ∙ one_sum (HasWidth p) (λ w. 2 * suc w) (one_width p) (IsExit p) xs ys vs ws is as' (are_of p xs vs h) (are_of p ys ws g) ∙ sym f
