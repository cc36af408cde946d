-- A method's empty rows.
use Rattle.std.proofs.Common.{◌≡◌, ◌≢◌, ℕ, zero, suc, ◌+◌, ◌*◌, ◌/◌, ◌%◌, ◌^◌, ◌<◌, true, false, List, [], ◌∷◌, length, get_or, set, replicate, count_ones, inl, inr, refl, sym, subst, ap, ◌∙◌, arith}
use Rattle.std.proofs.lemmas.Bool.{cases_eq, cases_lt, false≢true}
use Rattle.std.proofs.lemmas.List.{length-set, length-replicate, get_or-replicate, get_or_past}
use Rattle.std.proofs.lemmas.List.Sums.{sum_by-set, sum_by-cons}
use Rattle.std.proofs.lemmas.Nat.Bits.{bit_at-zero}
use Rattle.std.specs.Int.{bit_at}
use Rattle.std.proofs.lemmas.Nat.{ones_le_self}
use Rattle.std.specs.Option.{option_map_or}
use Rattle.std.specs.Prelude.{slice_get}
use Rattle.bit_rows.specs.Words.{IsIn, AreWords, ones_of}
use Rattle.bit_rows.proofs.Bits.{in_range}
use Rattle.dep_form.specs.declared.facts.Facts.{Facts}
use Rattle.tabulate.specs.declared.found.Found.{Found}
use Rattle.tabulate.specs.Frames.{method_of, width, size, row, at}
use Rattle.tabulate.specs.Found.{IsBit, Todo, IsOpen, AreFound, IsSame, got_of, todo_of, waits_of, is_waiting, total}
use Rattle.tabulate.proofs.Reading.{field_same, field_other, field_at}

zeros_at : (n i : ℕ) → ◌≡◌ {A = ℕ} (get_or (replicate n 0) i 0) 0
zeros_at n i = elim (cases_lt i n) [ inl lt ↦ get_or-replicate n i 0 0 lt | inr le ↦ get_or_past (replicate n 0) i 0 (omega (arith, le, length-replicate {A = ℕ} n 0)) ]

no_bit : (n i : ℕ) → IsIn (replicate n 0) i → ⊥
no_bit n i h =
    let e : bit_at (get_or (replicate n 0) (i / 64) 0) (i % 64) ≡ bit_at 0 (i % 64) = ap (λ w. bit_at w (i % 64)) (zeros_at n (i / 64)) in
    omega (arith, h, e, bit_at-zero (i % 64))

words_zero : (n : ℕ) → AreWords (replicate n 0)
words_zero n i = subst (λ (w : ℕ). w < 2 ^ 64) (sym (zeros_at n i)) (omega arith)

no_flag : (n i : ℕ) → get_or (replicate n false) i false ≡ false
no_flag n i = elim (cases_lt i n) [ inl lt ↦ get_or-replicate n i false false lt | inr le ↦ get_or_past (replicate n false) i false (omega (arith, le, length-replicate n false)) ]

none_in : (xs : List ℕ) → length xs ≡ 0 → (i : ℕ) → IsIn xs i → ⊥
none_in xs e i h = omega (arith, in_range xs i h, e)

no_ones : (n : ℕ) → ones_of (replicate n 0) ≡ 0
no_ones zero = refl
no_ones (suc n) = sum_by-cons count_ones 0 (replicate n 0) ∙ omega (arith, no_ones n, ones_le_self 0)

pub ones_none : (xs : List ℕ) → length xs ≡ 0 → ones_of xs ≡ 0
ones_none [] e = refl
ones_none (x ∷ xs) e = absurd (omega (arith, e))

module _ (p : Facts) (ts : List Found) (m : ℕ) (lt : m < length ts) (t' : Found) (tables : AreFound p ts) (empty : length (waits_of ts m) ≡ 0)
    (g : t'.got.items ≡ replicate (size p m * width p m) 0) (d : t'.todo.items ≡ replicate (size p m * width p m) 0) (ws : t'.waits.items ≡ replicate (size p m) false) where
  abbrev ts' : List Found
  ts' = set ts m t'

  got_here : got_of ts' m ≡ replicate (size p m * width p m) 0
  got_here = field_same (λ t. t.got.items) [] ts m t' lt ∙ g

  todo_here : todo_of ts' m ≡ replicate (size p m * width p m) 0
  todo_here = field_same (λ t. t.todo.items) [] ts m t' lt ∙ d

  waits_here : waits_of ts' m ≡ replicate (size p m) false
  waits_here = field_same (λ t. t.waits.items) [] ts m t' lt ∙ ws

  got_before : length (got_of ts m) ≡ 0
  got_before = tables.got m ∙ ap (λ k. k * width p m) empty ∙ omega arith

  todo_before : length (todo_of ts m) ≡ 0
  todo_before = tables.todo m ∙ ap (λ k. k * width p m) empty ∙ omega arith

  open_here : IsOpen p ts' m
  open_here = ap length waits_here ∙ length-replicate (size p m) false

  opens : (j : ℕ) → IsOpen p ts j → IsOpen p ts' j
  opens j o = elim (cases_eq j m) [ inl e ↦ subst (λ (k : ℕ). IsOpen p ts' k) (sym e) open_here | inr ne ↦ ap length (field_other (λ t. t.waits.items) [] ts m t' j ne) ∙ o ]

  bits : (W V : ℕ → List ℕ) → ((i : ℕ) → IsIn (W m) i → ⊥) → ((j : ℕ) → j ≢ m → V j ≡ W j) → (q : ℕ × ℕ) → IsBit p W q → IsBit p V q
  bits W V none other q h = elim (cases_eq (method_of p q.0) m) [
    | inl e ↦ absurd (none _ (subst (λ (k : ℕ). IsIn (W k) (64 * at p q.0 + q.1)) e h.2))
    | inr ne ↦ (h.0, h.1, subst (λ (xs : List ℕ). IsIn xs (64 * at p q.0 + q.1)) (sym (other (method_of p q.0) ne)) h.2)
  ]

  none_here : (W : ℕ → List ℕ) → W m ≡ replicate (size p m * width p m) 0 → (i : ℕ) → IsIn (W m) i → ⊥
  none_here W e i h = no_bit (size p m * width p m) i (subst (λ (xs : List ℕ). IsIn xs i) e h)

  flag_back : (n : ℕ) → is_waiting p ts' n ≡ true → is_waiting p ts n ≡ true
  flag_back n h = elim (cases_eq (method_of p n) m) [
    | inl e ↦ absurd (false≢true (sym (no_flag (size p m) (row p n)) ∙ sym (ap (λ k. get_or (waits_of ts' k) (row p n) false) e ∙ ap (λ xs. get_or xs (row p n) false) waits_here) ∙ h))
    | inr ne ↦ sym (ap (λ xs. get_or xs (row p n) false) (field_other (λ t. t.waits.items) [] ts m t' (method_of p n) ne)) ∙ h
  ]

  pub same : IsSame p ts ts'
  same = record {
    got = bits (got_of ts) (got_of ts') (none_in (got_of ts m) got_before) (field_other (λ t. t.got.items) [] ts m t');
    got_back = bits (got_of ts') (got_of ts) (none_here (got_of ts') got_here) (λ j ne. sym (field_other (λ t. t.got.items) [] ts m t' j ne));
    todo = bits (todo_of ts) (todo_of ts') (none_in (todo_of ts m) todo_before) (field_other (λ t. t.todo.items) [] ts m t');
    todo_back = bits (todo_of ts') (todo_of ts) (none_here (todo_of ts') todo_here) (λ j ne. sym (field_other (λ t. t.todo.items) [] ts m t' j ne));
    waiting = flag_back;
    stays = opens;
  }

  waits' : (q : ℕ × ℕ) → Todo p ts' q → is_waiting p ts' q.0 ≡ true
  waits' q h = elim (cases_eq (method_of p q.0) m) [
    | inl e ↦ absurd (none_here (todo_of ts') todo_here _ (subst (λ (k : ℕ). IsIn (todo_of ts' k) (64 * at p q.0 + q.1)) e h.2))
    | inr ne ↦ ap (λ xs. get_or xs (row p q.0) false) (field_other (λ t. t.waits.items) [] ts m t' (method_of p q.0) ne) ∙ tables.waiting q (same.todo_back q h)
  ]

  lens : (f : Found → List ℕ) → f t' ≡ replicate (size p m * width p m) 0 → ((j : ℕ) → length (option_map_or f (slice_get ts j) []) ≡ length (waits_of ts j) * width p j) → (j : ℕ) → length (option_map_or f (slice_get ts' j) []) ≡ length (waits_of ts' j) * width p j
  lens f e old j = elim (cases_eq j m) [
    | inl is ↦ subst (λ (k : ℕ). length (option_map_or f (slice_get ts' k) []) ≡ length (waits_of ts' k) * width p k) (sym is) (ap length (field_same f [] ts m t' lt ∙ e) ∙ length-replicate (size p m * width p m) 0 ∙ ap (λ k. k * width p m) (sym open_here))
    | inr ne ↦ ap length (field_other f [] ts m t' j ne) ∙ old j ∙ ap (λ k. length k * width p j) (sym (field_other (λ t. t.waits.items) [] ts m t' j ne))
  ]

  pub are : AreFound p ts'
  are = record {
    len = length-set ts m t' ∙ tables.len;
    got = lens (λ t. t.got.items) g tables.got;
    todo = lens (λ t. t.todo.items) d tables.todo;
    words = λ j. elim (cases_eq j m) [
      | inl e ↦ subst (λ (k : ℕ). AreWords (got_of ts' k)) (sym e) (subst (λ (xs : List ℕ). AreWords xs) (sym got_here) (words_zero (size p m * width p m)))
      | inr ne ↦ subst (λ (xs : List ℕ). AreWords xs) (sym (field_other (λ t. t.got.items) [] ts m t' j ne)) (tables.words j)
    ];
    shape = λ j. elim (cases_eq j m) [
      | inl e ↦ inr (subst (λ (k : ℕ). IsOpen p ts' k) (sym e) open_here)
      | inr ne ↦ let w = ap length (field_other (λ t. t.waits.items) [] ts m t' j ne) in elim (tables.shape j) [ inl z ↦ inl (w ∙ z) | inr o ↦ inr (w ∙ o) ]
    ];
    waiting = waits';
  }

  pub opened : IsOpen p ts' m
  opened = open_here

  pub same_total : total ts' ≡ total ts
  same_total = omega (arith, sum_by-set (λ t. ones_of t.got.items) ts m t' t' lt, ap ones_of g, no_ones (size p m * width p m), ones_none (got_of ts m) got_before, ap ones_of (field_at (λ t. t.got.items) [] ts m t' lt))

  pub others : (j : ℕ) → (j ≡ m → ⊥) → length (waits_of ts' j) ≡ length (waits_of ts j)
  others j ne = ap length (field_other (λ t. t.waits.items) [] ts m t' j ne)
