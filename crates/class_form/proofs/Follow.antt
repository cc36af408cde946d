-- What is decoded follows one another from the start to the end.
use Rattle.std.proofs.Common.{◌≡◌, ℕ, zero, suc, ◌+◌, ◌<◌, List, [], ◌∷◌, length, All, Contains, Some, None, refl, sym, ap, ◌∙◌, subst, arith}
use Rattle.std.specs.Prelude.{slice_get}
use Rattle.std.proofs.lemmas.Option.{same_Some}
use Rattle.std.proofs.lemmas.List.Elements.{All-contains}
use Rattle.slicer_ids.specs.Walks.{IsWalk}
use Rattle.byte_form.specs.Places.{IsBytes}
use Rattle.class_form.specs.Table.{opcode_of}
use Rattle.class_form.specs.Instructions.{form_at, size_of, dims_of, Stands, Follows, IsStart, AreInstrs, Instrs}
use Rattle.class_form.specs.Shapes.{AreInstrsOf, IsStart as IsInstrStart}
use Rattle.class_form.specs.declared.pool.Pool.{Pool}
use Rattle.class_form.specs.declared.body.Instr.{Instr}
use Rattle.class_form.specs.declared.opcode.Form.{Form}
use Rattle.class_form.specs.declared.opcode.Form.TheVariants.{TableSwitch, LookupSwitch, Dimensions}
use Rattle.class_form.proofs.CodeLaws.{contains_later}
use Rattle.class_form.proofs.TableWidths.{table_takes, table_leaves, operands_narrow, results_narrow, operands_few}

-- ONE INSTRUCTION

size_some : (code : List ℕ) (pc : ℕ) (form : Form) → 0 < size_of code pc form
size_some code pc TableSwitch = omega arith
size_some code pc LookupSwitch = omega arith
size_some code pc form = omega arith

dims_few : (code : List ℕ) (pc : ℕ) (form : Form) → IsBytes code → dims_of code pc form < 256
dims_few code pc Dimensions bytes = bytes (pc + 3)
dims_few code pc form bytes = omega arith

-- PLACES

module _ (code : List ℕ) (pool : Pool) where
  first_at : (from : ℕ) (xs : List Instr) (to : ℕ) (i : Instr) → AreInstrs code pool from xs to → slice_get xs 0 ≡ Some i → i.pc ≡ from
  first_at from [] to i h e = absurd cc
  first_at from (x ∷ xs) to i h e = ap (λ (y : Instr). y.pc) (sym (same_Some x i e)) ∙ h.0.place

  next_at : (from : ℕ) (xs : List Instr) (to k : ℕ) (i j : Instr) → AreInstrs code pool from xs to → slice_get xs k ≡ Some i → slice_get xs (suc k) ≡ Some j → j.pc ≡ i.pc + i.size
  next_at from [] to k i j h e f = absurd cc
  next_at from (x ∷ xs) to zero i j h e f =
      first_at (from + x.size) xs to j h.3 f ∙ ap (λ n. n + x.size) (sym h.0.place) ∙ ap (λ (y : Instr). y.pc + y.size) (same_Some x i e)
  next_at from (x ∷ xs) to (suc k) i j h e f = next_at (from + x.size) xs to k i j h.3 e f

  last_at : (from : ℕ) (xs : List Instr) (to k : ℕ) (i : Instr) → AreInstrs code pool from xs to → slice_get xs k ≡ Some i → slice_get xs (suc k) ≡ None → i.pc + i.size ≡ to
  last_at from [] to k i h e f = absurd cc
  last_at from (x ∷ []) to zero i h e f = ap (λ (y : Instr). y.pc + y.size) (sym (same_Some x i e)) ∙ ap (λ n. n + x.size) h.0.place ∙ h.3
  last_at from (x ∷ y ∷ ys) to zero i h e f = absurd cc
  last_at from (x ∷ xs) to (suc k) i h e f = last_at (from + x.size) xs to k i h.3 e f

  stands : (from : ℕ) (xs : List Instr) (to : ℕ) (i : Instr) → AreInstrs code pool from xs to → Contains xs i → Stands code pool i.pc i × All (IsStart code pool) i.targets
  stands from [] to i h c = absurd (omega (arith, c.1))
  stands from (x ∷ xs) to i h (zero, lt, is) =
      subst (λ (y : Instr). Stands code pool y.pc y × All (IsStart code pool) y.targets) is (subst (λ p. Stands code pool p x) (sym h.0.place) h.0, h.2)
  stands from (x ∷ xs) to i h (suc k, lt, is) = stands (from + x.size) xs to i h.3 (k, omega arith, is)

  -- where a walk leads within the code, an instruction begins
  begins : (from : ℕ) (xs : List Instr) (ws : List ℕ) (t : ℕ) → AreInstrs code pool from xs (length code) → IsWalk (Follows code pool) from ws t → t < length code → IsInstrStart xs t
  begins from [] [] t h w lt = absurd (omega (arith, h, w))
  begins from [] (v ∷ ws) t h w lt = let below = w.0.0 in absurd (omega (arith, h))
  begins from (x ∷ xs) [] t h w lt = (x, ((0, omega arith, refl), h.0.place ∙ w))
  begins from (x ∷ xs) (v ∷ ws) t h w lt =
      let e : v ≡ from + x.size = w.0.2 ∙ ap (λ n. from + n) (sym h.0.size) in
      let i = begins (from + x.size) xs ws t h.3 (subst (λ p. IsWalk (Follows code pool) p ws t) e w.1) lt in
      (i.0, (contains_later xs x i.0 i.1.0, i.1.1))

pub instructions_follow : (code : List ℕ) (pool : Pool) (list : List Instr) → IsBytes code → 0 < length code → Instrs code pool list → AreInstrsOf (length code) list
instructions_follow code pool list bytes some h =
    let one : (i : Instr) → Contains list i → Stands code pool i.pc i × All (IsStart code pool) i.targets = λ i. stands code pool 0 list (length code) i h in
    record {
      some = nonempty list h;
      first = λ i. first_at code pool 0 list (length code) i h;
      follow = λ k i j e f. next_at code pool 0 list (length code) k i j h e (subst (λ n. slice_get list n ≡ Some j) (omega arith) f);
      last = λ k i e f. last_at code pool 0 list (length code) k i h e (subst (λ n. slice_get list n ≡ None) (omega arith) f);
      sizes = λ i c. subst (λ n. 0 < n) (sym (one i c).0.size) (size_some code i.pc (form_at code i.pc));
      targets = λ i pc c t. let start = All-contains (IsStart code pool) i.targets pc (one i c).1 t in begins code pool 0 list start.0.0 pc h start.0.1 start.1;
      operands = λ i c.
          let s = (one i c).0 in
          operands_few pool i.index i.dims (opcode_of i.op).takes i.takes (subst (λ n. n < 256) (sym s.dims) (dims_few code i.pc (form_at code i.pc) bytes)) s.takes;
      widths = λ i c. operands_narrow pool i.index i.dims (opcode_of i.op).takes i.takes (table_takes i.op) (one i c).0.takes;
      results = λ i c. results_narrow pool i.index (opcode_of i.op).leaves i.leaves (table_leaves i.op) (one i c).0.leaves;
    }
  where
    nonempty : (xs : List Instr) → Instrs code pool xs → 0 < length xs
    nonempty [] none = absurd (omega (arith, none, some))
    nonempty (x ∷ xs) m = omega arith
