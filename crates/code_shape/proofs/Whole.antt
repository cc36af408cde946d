-- Instructions that follow one another are in order, and what the parts of a shape give together.
use Rattle.std.proofs.Common.{◌≡◌, ◌<◌, ◌≤◌, ◌+◌, ◌-◌, ℕ, zero, suc, List, [], length, get_or, All, AllPairs, Contains, Some, ◌⊎◌, inl, inr, refl, sym, ap, subst, ◌∙◌, arith}
use Rattle.std.specs.Prelude.{slice_get, ◌↔◌}
use Rattle.std.proofs.lemmas.Bool.{cases_lt}
use Rattle.std.proofs.lemmas.Option.{slice_get_within, slice_get_past, same_Some}
use Rattle.class_form.specs.declared.body.Instr.{Instr}
use Rattle.class_form.specs.declared.body.Point.{Point}
use Rattle.class_form.specs.declared.body.Shape.{Shape}
use Rattle.class_form.specs.declared.class_file.CodeBody.{CodeBody}
use Rattle.class_form.specs.Shapes.{AreInstrsOf, IsEntry, HasLocal, IsReached, RunsOff, AreDepths, ArePoints, Shaped, BreaksFirst}
use Rattle.code_shape.specs.declared.covers.Cover.{Cover}
use Rattle.code_shape.specs.declared.search.Code.{Code}
use Rattle.code_shape.specs.Codes.{IsAt, AreInOrder}
use Rattle.code_shape.specs.Covers.{CoverBefore, IsCovered}
use Rattle.code_shape.specs.Searches.{IsCode}
use Rattle.code_shape.proofs.Orders.{there_at}
use Rattle.code_shape.proofs.Searching.{index_at, same_instr}

pub in_order : (size : ℕ) (instrs : List Instr) → AreInstrsOf size instrs → AreInOrder instrs
in_order size instrs are j zero a b lt ea eb = absurd (omega arith)
in_order size instrs are j (suc k) a b lt ea eb =
    let before = index_at instrs k (omega (arith, slice_get_within instrs (suc k) b eb)) in
    let here : slice_get instrs (k + 1) ≡ Some b = subst (λ (n : ℕ). slice_get instrs n ≡ Some b) (omega arith) eb in
    let next = are.follow k before.0 b before.1 here in
    let pos = are.sizes before.0 (there_at instrs k before.0 before.1) in
    elim (cases_lt j k) [
      | inl less ↦ omega (arith, in_order size instrs are j k a before.0 less ea before.1, next, pos)
      | inr le ↦
          let e : j ≡ k = omega arith in
          let same : a ≡ before.0 = same_instr instrs k a before.0 (subst (λ (n : ℕ). IsAt instrs n a) e ea) before.1 in
          omega (arith, ap (λ (x : Instr). x.pc) same, next, pos)
    ]

pub index_le : (size : ℕ) (instrs : List Instr) → AreInstrsOf size instrs → (k : ℕ) (i : Instr) → IsAt instrs k i → k ≤ i.pc
index_le size instrs are zero i at = omega arith
index_le size instrs are (suc k) i at =
    let before = index_at instrs k (omega (arith, slice_get_within instrs (suc k) i at)) in
    omega (arith, index_le size instrs are k before.0 before.1, in_order size instrs are k (suc k) before.0 i (omega arith) before.1 at)

pub count_le : (size : ℕ) (instrs : List Instr) → AreInstrsOf size instrs → length instrs ≤ size
count_le size instrs are =
    let n = length instrs - 1 in
    let last = index_at instrs n (omega (arith, are.some)) in
    let ends = are.last n last.0 last.1 (slice_get_past instrs (n + 1) (omega (arith, are.some))) in
    omega (arith, index_le size instrs are n last.0 last.1, ends, are.sizes last.0 (there_at instrs n last.0 last.1))

pub is_code : (c : Code) → length c.body.now.code < 65536 → AreInstrsOf (length c.body.now.code) c.instrs.now → All (IsEntry c.body.now c.instrs.now) c.body.now.handlers
    → AllPairs CoverBefore c.covers.now → ((x : Cover) → Contains c.covers.now x ↔ IsCovered c.body.now c.instrs.now x) → IsCode c
is_code c small are entries order covers = record {
  instrs = are;
  order = in_order (length c.body.now.code) c.instrs.now are;
  few = omega (arith, count_le (length c.body.now.code) c.instrs.now are);
  small = small;
  entries = entries;
  covers_order = order;
  covers = covers;
}
