-- Tables with nothing in them.
use Rattle.std.proofs.Common.{◌≡◌, ℕ, ◌*◌, ◌^◌, ◌<◌, true, false, List, [], length, get_or, All, inl, inr, refl, sym, subst, ap, ◌∙◌, arith}
use Rattle.std.specs.Prelude.{slice_get, Option, Some, None}
use Rattle.std.specs.Option.{option_map_or}
use Rattle.std.proofs.lemmas.Bool.{cases_lt, false≢true}
use Rattle.std.proofs.lemmas.List.{get_or_past}
use Rattle.std.proofs.lemmas.List.Sums.{sum_by-le}
use Rattle.std.proofs.lemmas.Option.{slice_get_past, get_or_from_slice_get}
use Rattle.bit_rows.specs.Words.{ones_of}
use Rattle.bit_rows.proofs.Bits.{in_range}
use Rattle.dep_form.specs.declared.facts.Facts.{Facts}
use Rattle.tabulate.specs.declared.found.Found.{Found}
use Rattle.tabulate.specs.Frames.{method_of, row, width}
use Rattle.tabulate.specs.Found.{Got, Todo, AreFound, IsQueue, IsBlank, is_waiting, got_of, todo_of, waits_of, total}
use Rattle.tabulate.proofs.Opening.{ones_none}

module _ (p : Facts) (ts : List Found) (blank : All IsBlank ts) where
  none_at : {X : Type 0} (f : Found → List X) → ((t : Found) → IsBlank t → length (f t) ≡ 0) → (m : ℕ) → length (option_map_or f (slice_get ts m) []) ≡ 0
  none_at {X} f none m = elim (cases_lt m (length ts)) [ inl lt ↦ there (slice_get ts m) refl lt | inr le ↦ ap (λ (o : Option Found). length (option_map_or f o [])) (slice_get_past ts m le) ]
    where
      there : (o : Option Found) → slice_get ts m ≡ o → m < length ts → length (option_map_or f o []) ≡ 0
      there None e lt = refl
      there (Some t) e lt = none t (subst IsBlank (get_or_from_slice_get ts m t t e) (blank m t lt))

  no_got : (m : ℕ) → length (got_of ts m) ≡ 0
  no_got = none_at (λ t. t.got.items) (λ t b. b.0)

  no_todo : (m : ℕ) → length (todo_of ts m) ≡ 0
  no_todo = none_at (λ t. t.todo.items) (λ t b. b.1)

  pub no_waits : (m : ℕ) → length (waits_of ts m) ≡ 0
  no_waits = none_at (λ t. t.waits.items) (λ t b. b.2)

  pub nothing : (q : ℕ × ℕ) → Got p ts q → ⊥
  nothing q h = omega (arith, in_range (got_of ts (method_of p q.0)) _ h.2, no_got (method_of p q.0))

  pub nothing_waits : (q : ℕ × ℕ) → Todo p ts q → ⊥
  nothing_waits q h = omega (arith, in_range (todo_of ts (method_of p q.0)) _ h.2, no_todo (method_of p q.0))

  no_flag : (n : ℕ) → is_waiting p ts n ≡ true → ⊥
  no_flag n h = false≢true (sym (get_or_past (waits_of ts (method_of p n)) (row p n) false (omega (arith, no_waits (method_of p n)))) ∙ h)

  pub blank_tables : length ts ≡ length p.inputs → AreFound p ts
  blank_tables e = record {
    len = e;
    got = λ m. no_got m ∙ sym (ap (λ k. k * width p m) (no_waits m) ∙ omega arith);
    todo = λ m. no_todo m ∙ sym (ap (λ k. k * width p m) (no_waits m) ∙ omega arith);
    words = λ m i. subst (λ (w : ℕ). w < 2 ^ 64) (sym (get_or_past (got_of ts m) i 0 (omega (arith, no_got m)))) (omega arith);
    shape = λ m. inl (no_waits m);
    waiting = λ q h. absurd (nothing_waits q h);
  }

  pub blank_queue : IsQueue p ts []
  blank_queue = record { queued = λ n nl h. absurd (no_flag n h); opened = λ n c. absurd (omega (arith, c.1)) }

  pub blank_total : total ts ≡ 0
  blank_total = omega (arith, sum_by-le (λ t. ones_of t.got.items) 0 ts (λ k d lt. omega (arith, ones_none (get_or ts k d).got.items (blank k d lt).0)))
