-- How many pairs there can be.
use Rattle.std.proofs.Common.{◌≡◌, ℕ, suc, ◌+◌, ◌*◌, ◌/◌, ◌^◌, Option, ltb, ◌<◌, ◌≤◌, List, [], ◌∷◌, length, get_or, sum_by, count_ones, inl, inr, sym, subst, ap, ◌∙◌, arith}
use Rattle.dep_form.proofs.Levels.{some_is}
use Rattle.std.specs.Option.{option_map_or}
use Rattle.std.proofs.lemmas.Nat.{ones-le, mul-le}
use Rattle.std.proofs.lemmas.Option.{slice_get-get_or}
use Rattle.std.proofs.lemmas.List.Sums.{sum_by-cons, sum_by-le, count_by-le-length}
use Rattle.bit_rows.specs.Words.{AreWords, ones_of}
use Rattle.dep_form.specs.declared.facts.Facts.{Facts}
use Rattle.slicer_ids.specs.declared.ids.NodeId.{NodeId}
use Rattle.dep_form.specs.declared.input.MethodInput.{MethodInput}
use Rattle.dep_form.specs.Firsts.{nodes_in}
use Rattle.tabulate.specs.declared.found.Found.{Found}
use Rattle.tabulate.specs.Frames.{width, size, first}
use Rattle.tabulate.specs.Found.{AreFound, got_of, total}

-- as many words as have a bit for each exit
abbrev pub widest : Facts → ℕ
widest p = (length p.exits + 63) / 64

abbrev pub cap : Facts → ℕ
cap p = sum_by (λ o. 64 * (nodes_in o * widest p)) p.inputs

sums_le : {A B : Type 0} (f : A → ℕ) (h : B → ℕ) (xs : List A) (ys : List B) → length xs ≡ length ys → ((k : ℕ) (d : A) (e : B) → k < length xs → f (get_or xs k d) ≤ h (get_or ys k e)) → sum_by f xs ≤ sum_by h ys
sums_le f h [] [] e le = omega arith
sums_le f h [] (y ∷ ys) e le = absurd (omega (arith, e))
sums_le f h (x ∷ xs) [] e le = absurd (omega (arith, e))
sums_le f h (x ∷ xs) (y ∷ ys) e le = omega (arith, sum_by-cons f x xs, sum_by-cons h y ys, le 0 x y (omega arith), sums_le f h xs ys (omega (arith, e)) (λ k d i lt. le (suc k) d i (omega (arith, lt))))

ones_below : (xs : List ℕ) → AreWords xs → ones_of xs ≤ length xs * 64
ones_below xs all = sum_by-le count_ones 64 xs (λ k d lt. ones-le 64 (get_or xs k d) (subst (λ (w : ℕ). w < 2 ^ 64) (some_is _ _ (sym (slice_get-get_or xs k 0 lt) ∙ slice_get-get_or xs k d lt)) (all k)))

width_below : (p : Facts) (m : ℕ) → width p m ≤ widest p
width_below p m = omega (arith, count_by-le-length (λ (x : NodeId). ltb x.0 (first p m + size p m)) p.exits)

pub total_below : (p : Facts) (ts : List Found) → AreFound p ts → total ts ≤ cap p
total_below p ts t = sums_le (λ k. ones_of k.got.items) (λ o. 64 * (nodes_in o * widest p)) ts p.inputs t.len each
  where
    each : (k : ℕ) (d : Found) (e : Option MethodInput) → k < length ts → ones_of (get_or ts k d).got.items ≤ 64 * (nodes_in (get_or p.inputs k e) * widest p)
    each k d e lt =
        let here : got_of ts k ≡ (get_or ts k d).got.items = ap (λ o. option_map_or (λ (t : Found). t.got.items) o []) (slice_get-get_or ts k d lt) in
        let tall : size p k ≡ nodes_in (get_or p.inputs k e) = ap (λ o. option_map_or nodes_in o 0) (slice_get-get_or p.inputs k e (omega (arith, lt, t.len))) in
        let most = ones_below (got_of ts k) (t.words k) in
        let same : ones_of (get_or ts k d).got.items ≡ ones_of (got_of ts k) = ap ones_of (sym here) in
        elim (t.shape k) [
          | inl z ↦ let none : length (got_of ts k) ≡ 0 = t.got k ∙ ap (λ j. j * width p k) z ∙ omega arith in omega (arith, most, same, none)
          | inr o ↦
              let full : length (got_of ts k) ≡ nodes_in (get_or p.inputs k e) * width p k = t.got k ∙ ap (λ j. j * width p k) (o ∙ tall) in
              omega (arith, most, same, full, mul-le (nodes_in (get_or p.inputs k e)) (width p k) (nodes_in (get_or p.inputs k e)) (widest p) (omega arith) (width_below p k))
        ]
