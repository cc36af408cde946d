-- The bit of a pair, as the code reads it.
use Rattle.std.proofs.Common.{◌≡◌, ℕ, ◌+◌, ◌-◌, ◌*◌, ◌<◌, List, [], length, get_or, sym, subst, ap, ◌∙◌, arith}
use Rattle.std.specs.Prelude.{◌↔◌, slice_get}
use Rattle.std.specs.Option.{option_map_or}
use Rattle.bit_rows.specs.Words.{IsIn}
use Rattle.bit_rows.proofs.Bits.{in_range}
use Rattle.dep_form.specs.declared.facts.Facts.{Facts}
use Rattle.tabulate.specs.declared.found.Found.{Found}
use Rattle.tabulate.specs.declared.method.Method.{Method}
use Rattle.tabulate.specs.Frames.{method_of, width, row, at, IsOf}
use Rattle.tabulate.specs.Methods.{IsMethodOf}
use Rattle.tabulate.specs.Found.{Got, IsBit, AreFound, got_of, waits_of}
use Rattle.tabulate.proofs.Placing.{row_is, id_below}
use Rattle.tabulate.proofs.Reading.{read_is}

-- a method without rows has no pairs
pub closed_none : (p : Facts) (ts : List Found) (found : AreFound p ts) (n m x : ℕ) → method_of p n ≡ m → length (waits_of ts m) ≡ 0 → Got p ts (n, x) → ⊥
closed_none p ts found n m x e z h =
    let none : length (got_of ts (method_of p n)) ≡ 0 = found.got (method_of p n) ∙ ap (λ k. k * width p (method_of p n)) (ap (λ j. length (waits_of ts j)) e ∙ z) ∙ omega arith in
    omega (arith, in_range (got_of ts (method_of p n)) _ h.2, none)

module _ (p : Facts) (ts : List Found) (x : Method) (n : ℕ) (h : IsMethodOf p x) (o : IsOf p n x.id.0) (found : AreFound p ts) (t : Found) (is : t ≡ get_or ts x.id.0 t) (i : ℕ) (low : i < 64 * width p x.id.0) where
  place : 64 * ((n - x.first.0) * x.width) + i ≡ 64 * at p n + i
  place =
      let wide : x.width ≡ width p (method_of p n) = h.width_is ∙ sym (ap (width p) o.1) in
      ap (λ k. 64 * k + i) (ap (λ k. k * x.width) (row_is p x h n o) ∙ ap (λ k. row p n * k) wide)

  pub bit_is : (f : Found → List ℕ) → IsIn (f t) (64 * ((n - x.first.0) * x.width) + i) ↔ IsBit p (λ m. option_map_or f (slice_get ts m) []) (n, i)
  bit_is f = (to, from)
    where
      same : option_map_or f (slice_get ts (method_of p n)) [] ≡ f t
      same = ap (λ m. option_map_or f (slice_get ts m) []) o.1 ∙ read_is f [] ts x.id.0 t (id_below p ts x n h o found) is

      to : IsIn (f t) (64 * ((n - x.first.0) * x.width) + i) → IsBit p (λ m. option_map_or f (slice_get ts m) []) (n, i)
      to b = (o.0, omega (arith, low, ap (width p) o.1), subst (λ (xs : List ℕ). IsIn xs (64 * at p n + i)) (sym same) (subst (λ (k : ℕ). IsIn (f t) k) place b))

      from : IsBit p (λ m. option_map_or f (slice_get ts m) []) (n, i) → IsIn (f t) (64 * ((n - x.first.0) * x.width) + i)
      from b = subst (λ (k : ℕ). IsIn (f t) k) (sym place) (subst (λ (xs : List ℕ). IsIn xs (64 * at p n + i)) same b.2)
