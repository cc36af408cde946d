-- No two words of rows are one.
use Rattle.std.proofs.Common.{◌≡◌, ℕ, suc, ◌+◌, ◌<◌, ◌≤◌, length, refl, arith, ap, subst}
use Rattle.std.proofs.lemmas.List.{length-map}
use Rattle.slicer_ids.specs.declared.ids.ExitId.{ExitId}
use Rattle.slicer_ids.specs.declared.ids.Mode.{Mode}
use Rattle.slicer_ids.specs.declared.ids.Mode.TheVariants.{Thin, Full}
use Rattle.dep_form.specs.declared.facts.Facts.{Facts}
use Rattle.summary_memo.specs.Places.{widths, width, before, mode_words, gate_of, data_of, memo_words, words_for, formals_at}
use Rattle.summary_memo.proofs.Starts.{one_row, inside}

pub one_width_each : (f : Facts) → length (widths f) ≡ length f.exits
one_width_each f = length-map f.exits (λ n. words_for (formals_at f.inputs n))

-- the words of a mode's rows end before they could reach the next mode's
in_mode : (f : Facts) (e : ExitId) (a : ℕ) → e.0 < length f.exits → a ≤ width f e → before (widths f) e.0 + a < mode_words f
in_mode f e a lt le =
    let n = one_width_each f in
    subst (λ k. before (widths f) e.0 + a < before (widths f) k) n (inside (widths f) e.0 a (omega arith) le)

pub gate_in : (f : Facts) (e : ExitId) (mode : Mode) → e.0 < length f.exits → gate_of f e mode < suc (memo_words f)
gate_in f e Thin lt = let x = in_mode f e 0 lt (omega arith) in omega arith
gate_in f e Full lt = let x = in_mode f e 0 lt (omega arith) in omega arith

pub data_in : (f : Facts) (e : ExitId) (mode : Mode) (k : ℕ) → e.0 < length f.exits → k < width f e → data_of f e mode k < suc (memo_words f)
data_in f e Thin k lt in_row = let x = in_mode f e (suc k) lt in_row in omega arith
data_in f e Full k lt in_row = let x = in_mode f e (suc k) lt in_row in omega arith

-- no gate is word 0
pub past_none : (f : Facts) (e : ExitId) (mode : Mode) → 0 < gate_of f e mode
past_none f e Thin = omega arith
past_none f e Full = omega arith

-- two rows of which a word is the same are one
pub same_row : (f : Facts) (e d : ExitId) (m n : Mode) (a b : ℕ) → e.0 < length f.exits → d.0 < length f.exits → a ≤ width f e → b ≤ width f d
    → gate_of f e m + a ≡ gate_of f d n + b → (e ≡ d) × (m ≡ n)
same_row f e d Thin Thin a b e_in d_in a_in b_in same =
    let n = one_width_each f in
    (ap (λ k. record { 0 = k }) (one_row (widths f) e.0 d.0 a b (omega arith) (omega arith) a_in b_in (omega arith)), refl)
same_row f e d Full Full a b e_in d_in a_in b_in same =
    let n = one_width_each f in
    (ap (λ k. record { 0 = k }) (one_row (widths f) e.0 d.0 a b (omega arith) (omega arith) a_in b_in (omega arith)), refl)
same_row f e d Thin Full a b e_in d_in a_in b_in same = let x = in_mode f e a e_in a_in in absurd (omega arith)
same_row f e d Full Thin a b e_in d_in a_in b_in same = let x = in_mode f d b d_in b_in in absurd (omega arith)

pub same_gate : (f : Facts) (e d : ExitId) (m n : Mode) → e.0 < length f.exits → d.0 < length f.exits → gate_of f e m ≡ gate_of f d n → (e ≡ d) × (m ≡ n)
same_gate f e d m n e_in d_in same = same_row f e d m n 0 0 e_in d_in (omega arith) (omega arith) (omega arith)

pub same_data : (f : Facts) (e d : ExitId) (m n : Mode) (j k : ℕ) → e.0 < length f.exits → d.0 < length f.exits → j < width f e → k < width f d
    → data_of f e m j ≡ data_of f d n k → (e ≡ d) × (m ≡ n) × (j ≡ k)
same_data f e d m n j k e_in d_in j_in k_in same =
    let row = same_row f e d m n (suc j) (suc k) e_in d_in j_in k_in (omega arith) in
    let gate : gate_of f e m ≡ gate_of f d n = λ i. gate_of f (row.0 i) (row.1 i) in
    (row.0, row.1, omega arith)

pub gate_is_no_data : (f : Facts) (e d : ExitId) (m n : Mode) (k : ℕ) → e.0 < length f.exits → d.0 < length f.exits → k < width f d
    → gate_of f e m ≡ data_of f d n k → ⊥
gate_is_no_data f e d m n k e_in d_in k_in same =
    let row = same_row f e d m n 0 (suc k) e_in d_in (omega arith) k_in (omega arith) in
    let gate : gate_of f e m ≡ gate_of f d n = λ i. gate_of f (row.0 i) (row.1 i) in
    omega arith
