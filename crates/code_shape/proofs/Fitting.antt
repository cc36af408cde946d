-- Depths that fit at each instruction fit together, and those that the search gave fit where any do.
use Rattle.std.proofs.Common.{◌≡◌, ◌≢◌, ◌<◌, ◌≤◌, ◌+◌, ◌-◌, ℕ, Bool, true, false, zero, suc, cond, List, [], ◌∷◌, take, length, get_or, All, Contains, Some, ◌⊎◌, inl, inr, refl, sym, ap, subst, ◌∙◌, arith, eq-eqb}
use Rattle.std.specs.Prelude.{slice_get, ◌↔◌, IsTrue, nat_eq, if◌then◌else◌}
use Rattle.std.proofs.lemmas.Bool.{cases_lt, cases_eq, eqb-true}
use Rattle.std.proofs.lemmas.Option.{slice_get_within, slice_get-get_or, get_or_from_slice_get, same_Some, slice_get_past}
use Rattle.std.proofs.lemmas.List.Elements.{Contains-get_or, All-contains}
use Rattle.slicer_ids.specs.Walks.{stay, more}
use Rattle.slicer_ids.proofs.WalkForms.{by_cases, by_list}
use Rattle.class_form.specs.Table.{opcode_of}
use Rattle.class_form.specs.declared.body.Instr.{Instr}
use Rattle.class_form.specs.Shapes.{AreInstrsOf, IsInstrAt, IsStart, IsEntry, ControlPasses, GoesTo, Catches, IsReachable, IsReached, RunsOff, HasInstr, IsLeast, AreDepths, taken, depth_after}
use Rattle.worklist.specs.Worklists.{IsWorklist, is_marked}
use Rattle.code_shape.specs.declared.covers.Cover.{Cover}
use Rattle.code_shape.specs.declared.search.Code.{Code}
use Rattle.code_shape.specs.declared.search.Search.{Search}
use Rattle.code_shape.specs.Codes.{IsAt, AreInOrder, IsIndexOf}
use Rattle.code_shape.specs.Covers.{cover, IsCovered}
use Rattle.code_shape.specs.Searches.{IsCode, IsSearch, IsDone, HasDepth, Fits, depth_in}
use Rattle.code_shape.proofs.Orders.{index_in, there_at, read_at, first_of_kind}
use Rattle.code_shape.proofs.Searching.{one_index, same_instr, index_at}

-- no instruction but the last ends where the code does
pub last_only : (c : Code) (k : ℕ) (i : Instr) → IsCode c → IsAt c.instrs.now k i → i.pc + i.size ≡ length c.body.now.code → k + 1 ≡ length c.instrs.now
last_only c k i code at end =
    let within = slice_get_within c.instrs.now k i at in
    elim (cases_lt (k + 1) (length c.instrs.now)) [
      | inr le ↦ omega arith
      | inl less ↦
          let n = length c.instrs.now - 1 in
          let next = index_at c.instrs.now (k + 1) less in
          let last = index_at c.instrs.now n (omega arith) in
          let ends = code.instrs.last n last.0 last.1 (slice_get_past c.instrs.now (n + 1) (omega arith)) in
          let pos = code.instrs.sizes last.0 (there_at c.instrs.now n last.0 last.1) in
          let from = code.instrs.follow k i next.0 at next.1 in
          elim (cases_lt (k + 1) n) [
            | inl before ↦ absurd (omega (arith, code.order (k + 1) n next.0 last.0 before next.1 last.1, from, end, ends, pos))
            | inr ge ↦ let e : k + 1 ≡ n = omega arith in let same = same_instr c.instrs.now n next.0 last.0 (subst (λ (m : ℕ). IsAt c.instrs.now m next.0) e next.1) last.1 in absurd (omega (arith, ap (λ (x : Instr). x.pc) same, from, end, ends, pos))
          ]
    ]

pub last_ends : (c : Code) (k : ℕ) (i : Instr) → IsCode c → IsAt c.instrs.now k i → length c.instrs.now ≡ k + 1 → i.pc + i.size ≡ length c.body.now.code
last_ends c k i code at e = code.instrs.last k i at (slice_get_past c.instrs.now (k + 1) (omega arith))

pub none_runs_off : (c : Code) (s : Search) (last : ℕ) → IsCode c → IsDone c s → last + 1 ≡ length c.instrs.now
    → ((x : Instr) → IsAt c.instrs.now last x → (is_marked s.found.marks.items last ≡ false) ⊎ (IsTrue (opcode_of x.op).goes_on → ⊥))
    → (i : Instr) → IsReached c.body.now c.instrs.now i → RunsOff c.body.now i → ⊥
none_runs_off c s last code done is stays i reached runs =
    let k = index_in c.instrs.now i reached.0 in
    let e = last_only c k.0 i code k.1 runs.1 in
    let same : k.0 ≡ last = omega arith in
    let at : IsAt c.instrs.now last i = subst (λ (n : ℕ). IsAt c.instrs.now n i) same k.1 in
    let has = (done.exact last i at).1 reached.1 in
    elim (stays i at) [
      | inl unmarked ↦ different (sym (done.search.marks.listed has.0 last has.1) ∙ ap (is_marked s.found.marks.items) has.2 ∙ unmarked)
      | inr never ↦ never runs.0
    ]
  where
    different : true ≡ false → ⊥
    different e = absurd cc

pub runs_off : (c : Code) (s : Search) (last : ℕ) (i : Instr) → IsCode c → IsDone c s → IsAt c.instrs.now last i → last + 1 ≡ length c.instrs.now → is_marked s.found.marks.items last ≡ true → IsTrue (opcode_of i.op).goes_on
    → IsLeast (HasInstr c.instrs.now (λ x. IsReached c.body.now c.instrs.now x × RunsOff c.body.now x)) i.pc
runs_off c s last i code done at is marked goes =
    let reached = (done.exact last i at).0 (done.search.marks.marked last marked) in
    first_of_kind c.instrs.now (λ x. IsReached c.body.now c.instrs.now x × RunsOff c.body.now x) last i code.order at ((there_at c.instrs.now last i at, reached), (goes, last_ends c last i code at (sym is)))
    (λ j x lt atx h. absurd (omega (arith, last_only c j x code atx h.1.1)))

-- one depth for a pc
pub has_depth_at : (c : Code) (depths : List ℕ) (depth pc k : ℕ) → IsCode c → IsIndexOf c.instrs.now pc k → get_or depths k 0 ≡ depth → HasDepth c depths depth pc
has_depth_at c depths depth pc k code is e m h = ap (λ (n : ℕ). get_or depths n 0) (one_index c.instrs.now code.order m k h.0 is.0 h.1 is.1 (h.2 ∙ sym is.2)) ∙ e

pub no_depth : (c : Code) (depths : List ℕ) (depth pc : ℕ) → (IsStart c.instrs.now pc → ⊥) → HasDepth c depths depth pc
no_depth c depths depth pc none m h = absurd (none (h.0, (there_at c.instrs.now m h.0 h.1, h.2)))

-- no instruction comes after the last
pub no_depth_after : (c : Code) (depths : List ℕ) (depth k : ℕ) (i : Instr) → IsCode c → IsAt c.instrs.now k i → length c.instrs.now ≤ k + 1 → HasDepth c depths depth (i.pc + i.size)
no_depth_after c depths depth k i code at le m h =
    let j = h.0 in
    let pos = code.instrs.sizes i (there_at c.instrs.now k i at) in
    let within = slice_get_within c.instrs.now m j h.1 in
    elim (cases_lt m k) [
      | inl less ↦ absurd (omega (arith, code.order m k j i less h.1 at, h.2))
      | inr ge ↦ let e : m ≡ k = omega arith in let same = same_instr c.instrs.now k j i (subst (λ (n : ℕ). IsAt c.instrs.now n j) e h.1) at in absurd (omega (arith, ap (λ (x : Instr). x.pc) same, h.2, pos))
    ]

pub depth_next : (c : Code) (k : ℕ) (i j : Instr) → IsCode c → IsAt c.instrs.now k i → IsAt c.instrs.now (k + 1) j → IsIndexOf c.instrs.now (i.pc + i.size) (k + 1)
depth_next c k i j code at next = (j, next, code.instrs.follow k i j at next)

-- handlers by covers
pub handlers_by_covers : (c : Code) (k : ℕ) (i : Instr) (xs : List Cover) (depths : List ℕ) → IsCode c → IsAt c.instrs.now k i → ((x : Cover) → Contains xs x ↔ (Contains c.covers.now x × (x.index ≡ k)))
    → ((x : Cover) → Contains xs x → HasDepth c depths 1 x.handler) → (h : ℕ) → Catches c.body.now i.pc h → HasDepth c depths 1 h
handlers_by_covers c k i xs depths code at members all h catches = all (cover k h) ((members (cover k h)).1 ((code.covers (cover k h)).1 (i, at, catches), refl))

pub covers_by_handlers : (c : Code) (k : ℕ) (i : Instr) (xs : List Cover) (depths : List ℕ) → IsCode c → IsAt c.instrs.now k i → ((x : Cover) → Contains xs x ↔ (Contains c.covers.now x × (x.index ≡ k)))
    → ((h : ℕ) → Catches c.body.now i.pc h → HasDepth c depths 1 h) → (x : Cover) → Contains xs x → HasDepth c depths 1 x.handler
covers_by_handlers c k i xs depths code at members all x has =
    let h = (members x).0 has in
    let covered = (code.covers x).0 h.0 in
    let same = same_instr c.instrs.now k covered.0 i (subst (λ (n : ℕ). IsAt c.instrs.now n covered.0) h.1 covered.1) at in
    all x.handler (subst (λ (y : Instr). Catches c.body.now y.pc x.handler) same covered.2)

later : (x i : Instr) (d rest : ℕ) → x.pc < i.pc → (if nat_eq x.pc i.pc then d else rest) ≡ rest
later x i d rest less = by_test (nat_eq x.pc i.pc) refl
  where
    by_test : (b : Bool) → nat_eq x.pc i.pc ≡ b → (if b then d else rest) ≡ rest
    by_test true e = absurd (omega (arith, eqb-true x.pc i.pc e, less))
    by_test false e = refl

-- the depth of an instruction's pc is that of its index
pub depth_at : (instrs : List Instr) (depths : List ℕ) (k : ℕ) (i : Instr) → AreInOrder instrs → length depths ≡ length instrs → IsAt instrs k i → depth_in instrs depths i.pc ≡ get_or depths k 0
depth_at [] depths k i order len at = absurd cc
depth_at (x ∷ instrs) [] k i order len at = absurd (omega (arith, len))
depth_at (x ∷ instrs) (d ∷ depths) zero i order len at = by_test (nat_eq x.pc i.pc) (eq-eqb x.pc i.pc (ap (λ (y : Instr). y.pc) (same_Some x i at)))
  where
    by_test : (b : Bool) → b ≡ true → (if b then d else depth_in instrs depths i.pc) ≡ d
    by_test true e = refl
    by_test false e = absurd cc
depth_at (x ∷ instrs) (d ∷ depths) (suc k) i order len at =
    later x i d (depth_in instrs depths i.pc) (order 0 (suc k) x i (omega arith) refl at)
    ∙ depth_at instrs depths k i (λ a b p q lt ea eb. order (suc a) (suc b) p q (omega arith) ea eb) (omega (arith, len)) at

module _ (c : Code) (s : Search) (code : IsCode c) (done : IsDone c s) where
  abbrev depths : List ℕ
  depths = s.depths.items

  is_depth : (k : ℕ) (i : Instr) → IsAt c.instrs.now k i → depth_in c.instrs.now depths i.pc ≡ get_or depths k 0
  is_depth k i at = depth_at c.instrs.now depths k i code.order done.search.depths at

  -- an index for a start
  start_index : (pc : ℕ) → IsStart c.instrs.now pc → (m : ℕ) × IsIndexOf c.instrs.now pc m
  start_index pc h = let k = index_in c.instrs.now h.0 h.1.0 in (k.0, (h.0, k.1, h.1.1))

  depth_of : (depth pc : ℕ) → IsStart c.instrs.now pc → HasDepth c depths depth pc → depth_in c.instrs.now depths pc ≡ depth
  depth_of depth pc start has =
      let m = start_index pc start in
      ap (depth_in c.instrs.now depths) (sym m.1.2) ∙ is_depth m.0 m.1.0 m.1.1 ∙ has m.0 m.1

  handler_start : (pc h : ℕ) → Catches c.body.now pc h → IsStart c.instrs.now h
  handler_start pc h catches =
      let e = catches.0 in
      subst (IsStart c.instrs.now) catches.4 (All-contains (IsEntry c.body.now c.instrs.now) c.body.now.handlers e code.entries catches.1).handler

  reached_at : (k : ℕ) (i : Instr) → Contains s.found.items.items k → IsAt c.instrs.now k i → IsReached c.body.now c.instrs.now i
  reached_at k i has at = (there_at c.instrs.now k i at, (done.exact k i at).0 has)

  module _ (first : get_or depths 0 0 ≡ 0) (some : 0 < length c.instrs.now) (stays : (i : Instr) → IsReached c.body.now c.instrs.now i → RunsOff c.body.now i → ⊥)
      (fits : (k : ℕ) (i : Instr) → Contains s.found.items.items k → IsAt c.instrs.now k i → Fits c depths i (get_or depths k 0)) where
    fit : (i : Instr) → IsReached c.body.now c.instrs.now i → Fits c depths i (depth_in c.instrs.now depths i.pc)
    fit i reached =
        let k = index_in c.instrs.now i reached.0 in
        subst (Fits c depths i) (sym (is_depth k.0 i k.1)) (fits k.0 i ((done.exact k.0 i k.1).1 reached.1) k.1)

    next_start : (i : Instr) → IsReached c.body.now c.instrs.now i → IsTrue (opcode_of i.op).goes_on → IsStart c.instrs.now (i.pc + i.size)
    next_start i reached goes =
        let k = index_in c.instrs.now i reached.0 in
        elim (cases_lt (k.0 + 1) (length c.instrs.now)) [
          | inl less ↦ let j = index_at c.instrs.now (k.0 + 1) less in (j.0, (there_at c.instrs.now (k.0 + 1) j.0 j.1, code.instrs.follow k.0 i j.0 k.1 j.1))
          | inr le ↦ absurd (stays i reached (goes, last_ends c k.0 i code k.1 (omega (arith, slice_get_within c.instrs.now k.0 i k.1))))
        ]

    after_is : (i : Instr) (pc : ℕ) → IsReached c.body.now c.instrs.now i → GoesTo i pc → depth_in c.instrs.now depths pc ≡ depth_after i (depth_in c.instrs.now depths i.pc)
    after_is i pc reached (inl target) = depth_of (depth_after i (depth_in c.instrs.now depths i.pc)) pc (code.instrs.targets i pc reached.0 target) ((fit i reached).targets pc target)
    after_is i pc reached (inr (goes, e)) = ap (depth_in c.instrs.now depths) e ∙ depth_of (depth_after i (depth_in c.instrs.now depths i.pc)) (i.pc + i.size) (next_start i reached goes) ((fit i reached).next goes)

    pub together : AreDepths c.body.now c.instrs.now (depth_in c.instrs.now depths)
    together = record {
      start = let i = index_at c.instrs.now 0 some in ap (depth_in c.instrs.now depths) (sym (code.instrs.first i.0 i.1)) ∙ is_depth 0 i.0 i.1 ∙ first;
      handler = λ i h reached catches. depth_of 1 h (handler_start i.pc h catches) ((fit i reached).handlers h catches);
      operands = λ i reached. (fit i reached).operands;
      result = λ i reached. (fit i reached).result;
      after = λ i pc reached goes. after_is i pc reached goes;
    }

  module _ (f : ℕ → ℕ) (are : AreDepths c.body.now c.instrs.now f) where
    forced_at : (m : ℕ) (j : Instr) → IsAt c.instrs.now m j → IsReachable c.body.now c.instrs.now j.pc → get_or depths m 0 ≡ f j.pc
    forced_at m j at reach = done.search.forced f are m j ((done.exact m j at).1 reach) at

    passes : (i j : Instr) → IsReached c.body.now c.instrs.now i → GoesTo i j.pc ⊎ Catches c.body.now i.pc j.pc → IsReachable c.body.now c.instrs.now j.pc
    passes i j reached ways =
        let step : ControlPasses c.body.now c.instrs.now i.pc j.pc = (i, (reached.0, refl), ways) in
        by_list (ControlPasses c.body.now c.instrs.now) 0 (more (by_cases (ControlPasses c.body.now c.instrs.now) 0 0 i.pc reached.1.0 stay reached.1.1) step)

    goes_has : (k : ℕ) (i : Instr) (pc : ℕ) → IsReached c.body.now c.instrs.now i → f i.pc ≡ get_or depths k 0 → GoesTo i pc → HasDepth c depths (depth_after i (get_or depths k 0)) pc
    goes_has k i pc reached same goes m (j, at, e) =
        forced_at m j at (passes i j reached (inl (subst (GoesTo i) (sym e) goes))) ∙ ap f e ∙ are.after i pc reached goes ∙ ap (depth_after i) same

    pub fits_where : (k : ℕ) (i : Instr) → Contains s.found.items.items k → IsAt c.instrs.now k i → Fits c depths i (get_or depths k 0)
    fits_where k i has at =
        let reached = reached_at k i has at in
        let same : f i.pc ≡ get_or depths k 0 = sym (done.search.forced f are k i has at) in
        record {
          operands = subst (λ (n : ℕ). taken i ≤ n) same (are.operands i reached);
          result = subst (λ (n : ℕ). depth_after i n ≤ c.body.now.max_stack) same (are.result i reached);
          targets = λ pc t. goes_has k i pc reached same (inl t);
          next = λ goes. goes_has k i (i.pc + i.size) reached same (inr (goes, refl));
          handlers = λ h catches m j. forced_at m j.0 j.1 (passes i j.0 reached (inr (subst (Catches c.body.now i.pc) (sym j.2) catches))) ∙ ap f j.2 ∙ are.handler i h reached catches;
        }

    pub first_zero : 0 < length c.instrs.now → get_or depths 0 0 ≡ 0
    first_zero some =
        let i = index_at c.instrs.now 0 some in
        let z = code.instrs.first i.0 i.1 in
        forced_at 0 i.0 i.1 ([], sym z) ∙ ap f z ∙ are.start
