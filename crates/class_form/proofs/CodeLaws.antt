-- A code has one list of instructions or one first fault.
use Rattle.std.proofs.Common.{◌≡◌, ◌⊎◌, ℕ, zero, suc, ◌+◌, ◌<◌, Bool, List, [], ◌∷◌, Some, length, map, All, Contains, refl, sym, ap, ◌∙◌, subst, inl, inr, arith}
use Rattle.std.proofs.lemmas.Bool.{cases_order}
use Rattle.slicer_ids.specs.Walks.{IsWalk, LeadsBy}
use Rattle.class_form.specs.Bytes.{target_of}
use Rattle.class_form.specs.Table.{opcode_of}
use Rattle.class_form.specs.Types.{IsFieldType, IsMethodType}
use Rattle.class_form.specs.Instructions.{Check, checks, Passes, FailsFirst, form_at, distances_of, FieldAt, CallAt, TakesOperands, LeavesSlots, Stands, Follows, IsStart, Misses, AreInstrs, Instrs, FirstCodeFault, at_instruction, at_jump}
use Rattle.class_form.specs.declared.pool.Pool.{Pool}
use Rattle.class_form.specs.declared.types.FieldType.{FieldType}
use Rattle.class_form.specs.declared.types.MethodType.{MethodType}
use Rattle.class_form.specs.declared.body.Operand.{Operand}
use Rattle.class_form.specs.declared.body.Instr.{Instr}
use Rattle.class_form.specs.declared.code_error.CodeError.{CodeError}
use Rattle.class_form.specs.declared.code_error.CodeError.TheVariants.{Broken}
use Rattle.class_form.specs.declared.opcode.Takes.{Takes}
use Rattle.class_form.specs.declared.opcode.Takes.TheVariants.{FieldValue, BaseAndFieldValue, Arguments, ReceiverAndArguments}
use Rattle.class_form.specs.declared.opcode.Leaves.{Leaves}
use Rattle.class_form.specs.declared.opcode.Leaves.TheVariants.{FieldValue as OfField, Result}
use Rattle.class_form.proofs.OneType.{one_field_type, one_method_type}

-- ONE TYPE

some_same : {A : Type 0} (x y : A) → Some x ≡ Some y → x ≡ y
some_same x y e = cc

one_field : (pool : Pool) (i : ℕ) (t u : FieldType) → FieldAt pool i t → FieldAt pool i u → t ≡ u
one_field pool i t u h k = one_field_type h.0 t u h.2 (subst (λ b. IsFieldType b u) (some_same k.0 h.0 (sym k.1 ∙ h.1)) k.2)

one_call : (pool : Pool) (i : ℕ) (m n : MethodType) → CallAt pool i m → CallAt pool i n → m ≡ n
one_call pool i m n h k = one_method_type h.0 m n h.2 (subst (λ b. IsMethodType b n) (some_same k.0 h.0 (sym k.1 ∙ h.1)) k.2)

one_takes : (pool : Pool) (i dims : ℕ) (takes : Takes) (a b : List Operand) → TakesOperands pool i dims takes a → TakesOperands pool i dims takes b → a ≡ b
one_takes pool i dims FieldValue a b h k = let e = one_field pool i h.0 k.0 h.1 k.1 in rw (h.2, k.2, e) refl
one_takes pool i dims BaseAndFieldValue a b h k = let e = one_field pool i h.0 k.0 h.1 k.1 in rw (h.2, k.2, e) refl
one_takes pool i dims Arguments a b h k = let e = one_call pool i h.0 k.0 h.1 k.1 in rw (h.2, k.2, e) refl
one_takes pool i dims ReceiverAndArguments a b h k = let e = one_call pool i h.0 k.0 h.1 k.1 in rw (h.2, k.2, e) refl
one_takes pool i dims takes a b h k = h ∙ sym k

one_leaves : (pool : Pool) (i : ℕ) (leaves : Leaves) (a b : ℕ) → LeavesSlots pool i leaves a → LeavesSlots pool i leaves b → a ≡ b
one_leaves pool i OfField a b h k = let e = one_field pool i h.0 k.0 h.1 k.1 in rw (h.2, k.2, e) refl
one_leaves pool i Result a b h k = let e = one_call pool i h.0 k.0 h.1 k.1 in rw (h.2, k.2, e) refl
one_leaves pool i leaves a b h k = h ∙ sym k

-- ONE INSTRUCTION

alike : (p1 p2 s1 s2 o1 o2 : ℕ) (w1 w2 : Bool) (i1 i2 d1 d2 : ℕ) (t1 t2 : List ℕ) (k1 k2 : List Operand) (l1 l2 : ℕ)
    → p1 ≡ p2 → s1 ≡ s2 → o1 ≡ o2 → w1 ≡ w2 → i1 ≡ i2 → d1 ≡ d2 → t1 ≡ t2 → k1 ≡ k2 → l1 ≡ l2
    → (let x : Instr = record { pc = p1; size = s1; op = o1; wide = w1; index = i1; dims = d1; targets = t1; takes = k1; leaves = l1 } in x)
    ≡ record { pc = p2; size = s2; op = o2; wide = w2; index = i2; dims = d2; targets = t2; takes = k2; leaves = l2 }
alike p1 p2 s1 s2 o1 o2 w1 w2 i1 i2 d1 d2 t1 t2 k1 k2 l1 l2 p s o w i d t k l = rw (p, s, o, w, i, d, t, k, l) refl

same_takes : (pool : Pool) (i j : Instr) → i.op ≡ j.op → i.index ≡ j.index → i.dims ≡ j.dims
    → TakesOperands pool i.index i.dims (opcode_of i.op).takes i.takes → TakesOperands pool j.index j.dims (opcode_of j.op).takes j.takes → i.takes ≡ j.takes
same_takes pool i j o x d h k =
    one_takes pool j.index j.dims (opcode_of j.op).takes i.takes j.takes
    (subst (λ op. TakesOperands pool j.index j.dims (opcode_of op).takes i.takes) o
    (subst (λ n. TakesOperands pool j.index n (opcode_of i.op).takes i.takes) d (subst (λ n. TakesOperands pool n i.dims (opcode_of i.op).takes i.takes) x h))) k

same_leaves : (pool : Pool) (i j : Instr) → i.op ≡ j.op → i.index ≡ j.index
    → LeavesSlots pool i.index (opcode_of i.op).leaves i.leaves → LeavesSlots pool j.index (opcode_of j.op).leaves j.leaves → i.leaves ≡ j.leaves
same_leaves pool i j o x h k =
    one_leaves pool j.index (opcode_of j.op).leaves i.leaves j.leaves
    (subst (λ op. LeavesSlots pool j.index (opcode_of op).leaves i.leaves) o (subst (λ n. LeavesSlots pool n (opcode_of i.op).leaves i.leaves) x h)) k

pub one_instr : (code : List ℕ) (pool : Pool) (pc : ℕ) (i j : Instr) → Stands code pool pc i → Stands code pool pc j → i.targets ≡ j.targets → i ≡ j
one_instr code pool pc i j h k t =
    let o = h.op ∙ sym k.op in
    let x = h.index ∙ sym k.index in
    let d = h.dims ∙ sym k.dims in
    alike i.pc j.pc i.size j.size i.op j.op i.wide j.wide i.index j.index i.dims j.dims i.targets j.targets i.takes j.takes i.leaves j.leaves
    (h.place ∙ sym k.place) (h.size ∙ sym k.size) o (h.wide ∙ sym k.wide) x d t
    (same_takes pool i j o x d h.takes k.takes) (same_leaves pool i j o x h.leaves k.leaves)

-- ONE LIST

somes_same : {A : Type 0} (xs ys : List A) → map (λ x. Some x) xs ≡ map (λ x. Some x) ys → xs ≡ ys
somes_same [] [] e = refl
somes_same [] (y ∷ ys) e = cc
somes_same (x ∷ xs) [] e = cc
somes_same (x ∷ xs) (y ∷ ys) e =
    let first : x ≡ y = cc in
    let others : map (λ x. Some x) xs ≡ map (λ x. Some x) ys = cc in
    rw (first, somes_same xs ys others) refl

pub one_list : (code : List ℕ) (pool : Pool) (from : ℕ) (xs ys : List Instr) → AreInstrs code pool from xs (length code) → AreInstrs code pool from ys (length code) → xs ≡ ys
one_list code pool from [] [] h k = refl
one_list code pool from [] (y ∷ ys) h k = let lt = k.0.inside in absurd (omega (arith, h))
one_list code pool from (x ∷ xs) [] h k = let lt = h.0.inside in absurd (omega (arith, k))
one_list code pool from (x ∷ xs) (y ∷ ys) h k =
    let first = one_instr code pool from x y h.0 k.0 (somes_same x.targets y.targets (sym h.1 ∙ k.1)) in
    let others = one_list code pool (from + x.size) xs ys h.3 (subst (λ n. AreInstrs code pool (from + n) ys (length code)) (ap (λ (i : Instr). i.size) (sym first)) k.3) in
    rw (first, others) refl

-- ONE FAULT

pub passes_or_fails : (code : List ℕ) (pool : Pool) (pc : ℕ) (fault : CodeError) (cs : List Check) → Passes code pool pc cs → FailsFirst code pool pc fault cs → ⊥
passes_or_fails code pool pc fault [] p f = f
passes_or_fails code pool pc fault (c ∷ cs) p (inl f) = f.0 p.0
passes_or_fails code pool pc fault (c ∷ cs) p (inr f) = passes_or_fails code pool pc fault cs p.1 f.1

one_failure : (code : List ℕ) (pool : Pool) (pc : ℕ) (a b : CodeError) (cs : List Check) → FailsFirst code pool pc a cs → FailsFirst code pool pc b cs → a ≡ b
one_failure code pool pc a b [] f g = absurd f
one_failure code pool pc a b (c ∷ cs) (inl f) (inl g) = f.1 ∙ sym g.1
one_failure code pool pc a b (c ∷ cs) (inl f) (inr g) = absurd (f.0 g.0)
one_failure code pool pc a b (c ∷ cs) (inr f) (inl g) = absurd (g.0 f.0)
one_failure code pool pc a b (c ∷ cs) (inr f) (inr g) = one_failure code pool pc a b cs f.1 g.1

-- of two walks from one place, one goes on where the other ends
module _ (code : List ℕ) (pool : Pool) where
  one_way : (a : ℕ) (xs ys : List ℕ) (b c : ℕ) → IsWalk (Follows code pool) a xs b → IsWalk (Follows code pool) a ys c → LeadsBy (Follows code pool) b c ⊎ LeadsBy (Follows code pool) c b
  one_way a [] ys b c h k = inl (ys, subst (λ p. IsWalk (Follows code pool) p ys c) h k)
  one_way a (x ∷ xs) [] b c h k = inr (x ∷ xs, subst (λ p. IsWalk (Follows code pool) p (x ∷ xs) b) k h)
  one_way a (x ∷ xs) (y ∷ ys) b c h k =
      let e : y ≡ x = k.0.2 ∙ sym h.0.2 in
      one_way x xs ys b c h.1 (subst (λ p. IsWalk (Follows code pool) p ys c) e k.1)

  -- no walk goes on from a place that fails, nor from the end
  stays : (a b : ℕ) → ((c : ℕ) → Follows code pool a c → ⊥) → LeadsBy (Follows code pool) a b → a ≡ b
  stays a b none ([], h) = h
  stays a b none (x ∷ xs, h) = absurd (none x h.0)

  no_way_on : (a : ℕ) (fault : CodeError) → FailsFirst code pool a fault checks → (c : ℕ) → Follows code pool a c → ⊥
  no_way_on a fault f c h = passes_or_fails code pool a fault checks h.1 f

  no_way_out : (c : ℕ) → Follows code pool (length code) c → ⊥
  no_way_out c h = let lt = h.0 in absurd (omega arith)

  -- a place that fails is the only one, and the walk doesn't reach the end
  one_place : (a b : ℕ) (f g : CodeError) → LeadsBy (Follows code pool) 0 a → LeadsBy (Follows code pool) 0 b → FailsFirst code pool a f checks → FailsFirst code pool b g checks → a ≡ b
  one_place a b f g h k p q =
      elim (one_way 0 h.0 k.0 a b h.1 k.1) [
        | inl on ↦ stays a b (no_way_on a f p) on
        | inr on ↦ sym (stays b a (no_way_on b g q) on)
      ]

  no_end : (a : ℕ) (f : CodeError) → LeadsBy (Follows code pool) 0 a → a < length code → FailsFirst code pool a f checks → LeadsBy (Follows code pool) 0 (length code) → ⊥
  no_end a f h lt p k =
      elim (one_way 0 h.0 k.0 a (length code) h.1 k.1) [
        | inl on ↦ (let e = stays a (length code) (no_way_on a f p) on in absurd (omega arith))
        | inr on ↦ (let e = stays (length code) a no_way_out on in absurd (omega arith))
      ]

  pub one_fault : (f g : CodeError) → FirstCodeFault code pool f → FirstCodeFault code pool g → f ≡ g
  one_fault f g (at_instruction {pc = a} s p) (at_instruction {pc = b} t q) =
      let e = one_place a b f g s.0 t.0 p q in
      one_failure code pool b f g checks (subst (λ x. FailsFirst code pool x f checks) e p) q
  one_fault f g (at_instruction {pc = a} s p) (at_jump k t m least e) = absurd (no_end a f s.0 s.1 p k)
  one_fault f g (at_jump k t m least e) (at_instruction {pc = b} s q) = absurd (no_end b g s.0 s.1 q k)
  one_fault f g (at_jump {pc = a} k s m least e) (at_jump {pc = b} k' t n least' e') =
      elim (cases_order a b) [
        | inl same ↦ e ∙ ap (λ x. Broken 5 x) same ∙ sym e'
        | inr other ↦ elim other [ inl lt ↦ absurd (least' a lt s m) | inr lt ↦ absurd (least b lt t n) ]
      ]

-- A LIST OR A FAULT

pub contains_later : {A : Type 0} (xs : List A) (x y : A) → Contains xs y → Contains (x ∷ xs) y
contains_later xs x y c = (suc c.0, omega (arith, c.1), c.2)

-- a distance of an instruction leads to one of its targets
pub leads_to : (pc : ℕ) (ds ts : List ℕ) → map (target_of pc) ds ≡ map (λ t. Some t) ts → (d : ℕ) → Contains ds d → (t : ℕ) × (target_of pc d ≡ Some t) × Contains ts t
leads_to pc [] ts e d c = absurd (omega (arith, c.1))
leads_to pc (x ∷ ds) [] e d c = cc
leads_to pc (x ∷ ds) (t ∷ ts) e d (zero, lt, is) =
    let first : target_of pc x ≡ Some t = cc in
    (t, ap (target_of pc) (sym is) ∙ first, (0, omega arith, refl))
leads_to pc (x ∷ ds) (t ∷ ts) e d (suc k, lt, is) =
    let others : map (target_of pc) ds ≡ map (λ t. Some t) ts = cc in
    let r = leads_to pc ds ts others d (k, omega arith, is) in
    (r.0, r.1, contains_later ts t r.0 r.2)

module _ (code : List ℕ) (pool : Pool) where
  pub walks_on : (from : ℕ) (xs : List Instr) (to : ℕ) → AreInstrs code pool from xs to → LeadsBy (Follows code pool) from to
  walks_on from [] to h = ([], h)
  walks_on from (x ∷ xs) to h =
      let w = walks_on (from + x.size) xs to h.3 in
      ((from + x.size) ∷ w.0, ((h.0.inside, h.0.passes, ap (λ n. from + n) h.0.size), w.1))

  misses_none : (pc : ℕ) (i : Instr) → map (target_of pc) (distances_of code pc (form_at code pc)) ≡ map (λ t. Some t) i.targets → All (IsStart code pool) i.targets → Misses code pool pc → ⊥
  misses_none pc i e all m =
      let r = leads_to pc (distances_of code pc (form_at code pc)) i.targets e m.0 m.1 in
      m.2 r.0 r.1 (subst (IsStart code pool) r.2.2 (all r.2.0 r.0 r.2.1))

  -- the instruction that begins at a place that a walk leads to
  none_misses : (from : ℕ) (xs : List Instr) (ws : List ℕ) (pc : ℕ) → AreInstrs code pool from xs (length code) → IsWalk (Follows code pool) from ws pc → pc < length code → Misses code pool pc → ⊥
  none_misses from [] [] pc h w lt m = absurd (omega (arith, h, w))
  none_misses from [] (v ∷ ws) pc h w lt m = let below = w.0.0 in absurd (omega (arith, h))
  none_misses from (x ∷ xs) [] pc h w lt m = misses_none from x h.1 h.2 (subst (Misses code pool) (sym w) m)
  none_misses from (x ∷ xs) (v ∷ ws) pc h w lt m =
      let e : v ≡ from + x.size = w.0.2 ∙ ap (λ n. from + n) (sym h.0.size) in
      none_misses (from + x.size) xs ws pc h.3 (subst (λ p. IsWalk (Follows code pool) p ws pc) e w.1) lt m

  pub list_or_fault : (xs : List Instr) (f : CodeError) → Instrs code pool xs → FirstCodeFault code pool f → ⊥
  list_or_fault xs f h (at_instruction {pc = a} s p) = no_end code pool a f s.0 s.1 p (walks_on 0 xs (length code) h)
  list_or_fault xs f h (at_jump {pc = a} k s m least e) = none_misses 0 xs s.0.0 a h s.0.1 s.1 m
