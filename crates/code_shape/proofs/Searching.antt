-- The search finds what control comes to, and no depth but the one that is forced.
use Rattle.std.proofs.Common.{◌≡◌, ◌≢◌, ◌<◌, ◌≤◌, ◌+◌, ◌-◌, ℕ, Bool, true, false, List, [], ◌∷◌, ◌++◌, take, length, get_or, set, All, AllPairs, Contains, Some, None, ◌⊎◌, inl, inr, refl, sym, ap, subst, ◌∙◌, arith, get_or-set_same, get_or-set_other, length-set}
use Rattle.std.specs.Prelude.{slice_get, ◌↔◌, IsTrue}
use Rattle.std.proofs.lemmas.Bool.{cases_lt, cases_eq}
use Rattle.std.proofs.lemmas.Option.{slice_get_within, slice_get-get_or, get_or_from_slice_get, same_Some, slice_get_past}
use Rattle.std.proofs.lemmas.List.{append-nil}
use Rattle.std.proofs.lemmas.List.Elements.{All-contains}
use Rattle.slicer_ids.specs.Walks.{Leads, stay, more, LeadsBy}
use Rattle.slicer_ids.proofs.WalkForms.{by_cases, by_list}
use Rattle.class_form.specs.Table.{opcode_of}
use Rattle.class_form.specs.declared.body.Instr.{Instr}
use Rattle.class_form.specs.declared.class_file.CodeBody.{CodeBody}
use Rattle.class_form.specs.Shapes.{AreInstrsOf, IsStart, IsInstrAt, IsEntry, GoesTo, Catches, ControlPasses, IsReachable, IsReached, AreDepths, taken, depth_after}
use Rattle.worklists.specs.Growth.{Grows, FromOne}
use Rattle.worklist.specs.Worklists.{IsWorklist, is_marked}
use Rattle.worklists.proofs.Growing.{Grows-same, Grows-kept, Grows-none, Grows-then}
use Rattle.worklists.proofs.ClosingOne.{Closing, taken_all}
use Rattle.code_shape.specs.declared.covers.Cover.{Cover}
use Rattle.code_shape.specs.declared.search.Code.{Code}
use Rattle.code_shape.specs.declared.search.Search.{Search}
use Rattle.code_shape.specs.Codes.{IsAt, AreInOrder, IsIndexOf}
use Rattle.code_shape.specs.Covers.{IsCovered, cover}
use Rattle.code_shape.specs.Searches.{IsCode, IsSearch, IsForced, IsNext, IsHandler, Steps, IsReachedAt}
use Rattle.code_shape.proofs.Orders.{index_in, there_at, read_at}
use Rattle.code_shape.proofs.Covering.{cover_made}

-- there is one index for a pc
pub one_index : (instrs : List Instr) → AreInOrder instrs → (j k : ℕ) (a b : Instr) → IsAt instrs j a → IsAt instrs k b → a.pc ≡ b.pc → j ≡ k
one_index instrs order j k a b ea eb e = elim (cases_lt j k) [
  | inl less ↦ absurd (omega (arith, order j k a b less ea eb))
  | inr le ↦ elim (cases_lt k j) [ inl less ↦ absurd (omega (arith, order k j b a less eb ea)) | inr ge ↦ omega arith ]
]

pub same_instr : (instrs : List Instr) (k : ℕ) (a b : Instr) → IsAt instrs k a → IsAt instrs k b → a ≡ b
same_instr instrs k a b ea eb = same_Some a b (sym ea ∙ eb)

-- one instruction more
module _ (c : Code) (marks : List Bool) (items new_items : List ℕ) (depths : List ℕ) (index depth : ℕ) (below : index < length depths)
    (listed : All (λ n. is_marked marks n ≡ true) items) (unmarked : is_marked marks index ≡ false)
    (forced : (f : ℕ → ℕ) → AreDepths c.body.now c.instrs.now f → (k : ℕ) (i : Instr) → Contains items k → IsAt c.instrs.now k i → get_or depths k 0 ≡ f i.pc)
    (here : (i : Instr) → IsAt c.instrs.now index i → IsForced c i.pc depth) (g : Grows items new_items (λ m. m ≡ index)) where
  pub forced_more : (f : ℕ → ℕ) → AreDepths c.body.now c.instrs.now f → (k : ℕ) (i : Instr) → Contains new_items k → IsAt c.instrs.now k i → get_or (set depths index depth) k 0 ≡ f i.pc
  forced_more f are k i has at = elim (g.only k has) [
    | inl old ↦
        let other : k ≢ index = λ e. absurd (different (sym (All-contains (λ n. is_marked marks n ≡ true) items k listed old) ∙ ap (is_marked marks) e ∙ unmarked)) in
        get_or-set_other depths index k depth 0 other ∙ forced f are k i old at
    | inr e ↦
        let at2 : IsAt c.instrs.now index i = subst (λ (n : ℕ). IsAt c.instrs.now n i) e at in
        ap (λ (n : ℕ). get_or (set depths index depth) n 0) e ∙ get_or-set_same depths index depth 0 below ∙ sym (here i at2 f are)
  ]
    where
      different : true ≡ false → ⊥
      different e = absurd cc

pub already : (marks : List Bool) (items : List ℕ) (index : ℕ) → IsWorklist marks items → is_marked marks index ≡ true → Grows items items (λ m. m ≡ index)
already marks items index w m = record { front = ([], sym (append-nil items)); all = λ n e. subst (Contains items) (sym e) (w.marked index m); only = λ n h. inl h }

pub index_of_pc : (instrs : List Instr) (pc k : ℕ) (old new : List ℕ) → AreInOrder instrs → IsIndexOf instrs pc k → Grows old new (λ m. m ≡ k) → Grows old new (IsIndexOf instrs pc)
index_of_pc instrs pc k old new order is g = Grows-same old new (λ m. m ≡ k) (IsIndexOf instrs pc) (λ m e. subst (IsIndexOf instrs pc) (sym e) is) (λ m h. one_index instrs order m k h.0 is.0 h.1 is.1 (h.2 ∙ sym is.2)) g

-- the next instruction
pub next_is : (c : Code) (k : ℕ) (i j : Instr) (old new : List ℕ) → IsCode c → IsAt c.instrs.now k i → IsAt c.instrs.now (k + 1) j → IsTrue (opcode_of i.op).goes_on → Grows old new (λ m. m ≡ k + 1) → Grows old new (IsNext c i)
next_is c k i j old new code at next goes g =
    let is : IsIndexOf c.instrs.now (i.pc + i.size) (k + 1) = (j, next, code.instrs.follow k i j at next) in
    Grows-same old new (λ m. m ≡ k + 1) (IsNext c i) (λ m e. (goes, subst (IsIndexOf c.instrs.now (i.pc + i.size)) (sym e) is)) (λ m h. one_index c.instrs.now code.order m (k + 1) h.1.0 j h.1.1 next (h.1.2 ∙ sym is.2)) g

pub no_next : (c : Code) (i : Instr) (old : List ℕ) → (IsTrue (opcode_of i.op).goes_on → ⊥) → Grows old old (IsNext c i)
no_next c i old never = Grows-none old (IsNext c i) (λ m h. never h.0)

-- no instruction comes after the last
pub last_next : (c : Code) (k : ℕ) (i : Instr) (old : List ℕ) → IsCode c → IsAt c.instrs.now k i → length c.instrs.now ≤ k + 1 → Grows old old (IsNext c i)
last_next c k i old code at le = Grows-none old (IsNext c i) (λ m h.
    let j = h.1.0 in
    let within = slice_get_within c.instrs.now m j h.1.1 in
    let pos = code.instrs.sizes i (there_at c.instrs.now k i at) in
    elim (cases_lt m k) [
      | inl less ↦ absurd (omega (arith, code.order m k j i less h.1.1 at, h.1.2))
      | inr ge ↦ let e : m ≡ k = omega arith in let same = same_instr c.instrs.now k j i (subst (λ (n : ℕ). IsAt c.instrs.now n j) e h.1.1) at in absurd (omega (arith, ap (λ (x : Instr). x.pc) same, h.1.2, pos))
    ])

-- the handlers by the covers
pub handlers_are : (c : Code) (k : ℕ) (i : Instr) (xs : List Cover) (old new : List ℕ) → IsCode c → IsAt c.instrs.now k i → ((x : Cover) → Contains xs x ↔ (Contains c.covers.now x × (x.index ≡ k)))
    → Grows old new (FromOne (λ (x : Cover) (m : ℕ). IsIndexOf c.instrs.now x.handler m) xs) → Grows old new (IsHandler c i)
handlers_are c k i xs old new code at members g = Grows-same old new (FromOne (λ (x : Cover) (m : ℕ). IsIndexOf c.instrs.now x.handler m) xs) (IsHandler c i) to from g
  where
    to : (m : ℕ) → FromOne (λ (x : Cover) (n : ℕ). IsIndexOf c.instrs.now x.handler n) xs m → IsHandler c i m
    to m (x, has, is) =
        let h = (members x).0 has in
        let covered = (code.covers x).0 h.0 in
        let same = same_instr c.instrs.now k covered.0 i (subst (λ (n : ℕ). IsAt c.instrs.now n covered.0) h.1 covered.1) at in
        (x.handler, subst (λ (y : Instr). Catches c.body.now y.pc x.handler) same covered.2, is)

    from : (m : ℕ) → IsHandler c i m → FromOne (λ (x : Cover) (n : ℕ). IsIndexOf c.instrs.now x.handler n) xs m
    from m (h, catches, is) =
        let x : Cover = cover k h in
        (x, (members x).1 ((code.covers x).1 (i, at, catches), refl), is)

-- all steps from an instruction
pub steps_are : (c : Code) (k : ℕ) (i : Instr) (old a b new : List ℕ) → IsCode c → IsAt c.instrs.now k i
    → Grows old a (FromOne (IsIndexOf c.instrs.now) i.targets) → Grows a b (IsNext c i) → Grows b new (IsHandler c i) → Grows old new (Steps c k)
steps_are c k i old a b new code at g h l =
    Grows-then old b new (λ m. FromOne (IsIndexOf c.instrs.now) i.targets m ⊎ IsNext c i m) (IsHandler c i) (Steps c k) to from
    (Grows-then old a b (FromOne (IsIndexOf c.instrs.now) i.targets) (IsNext c i) (λ m. FromOne (IsIndexOf c.instrs.now) i.targets m ⊎ IsNext c i m) (λ m x. x) (λ m x. x) g h) l
  where
    to : (m : ℕ) → Steps c k m → (FromOne (IsIndexOf c.instrs.now) i.targets m ⊎ IsNext c i m) ⊎ IsHandler c i m
    to m (x, j, ex, ej, ways) =
        let same = same_instr c.instrs.now k x i ex at in
        elim (subst (λ (y : Instr). GoesTo y j.pc ⊎ Catches c.body.now y.pc j.pc) same ways) [
          | inl goes ↦ elim goes [
            | inl target ↦ inl (inl (j.pc, target, (j, ej, refl)))
            | inr next ↦ inl (inr (next.0, (j, ej, next.1)))
          ]
          | inr caught ↦ inr (j.pc, caught, (j, ej, refl))
        ]

    from : (m : ℕ) → (FromOne (IsIndexOf c.instrs.now) i.targets m ⊎ IsNext c i m) ⊎ IsHandler c i m → Steps c k m
    from m (inl (inl (pc, target, (j, ej, e)))) = (i, j, at, ej, inl (inl (subst (Contains i.targets) (sym e) target)))
    from m (inl (inr (goes, (j, ej, e)))) = (i, j, at, ej, inl (inr (goes, e)))
    from m (inr (h, caught, (j, ej, e))) = (i, j, at, ej, inr (subst (Catches c.body.now i.pc) (sym e) caught))

pub by_one : (c : Code) (k m : ℕ) → IsReachedAt c k → Steps c k m → IsReachedAt c m
by_one c k m (x, ex, reach) (i, j, ei, ej, ways) =
    let same = same_instr c.instrs.now k x i ex ei in
    let r : IsReachable c.body.now c.instrs.now i.pc = subst (λ (y : Instr). IsReachable c.body.now c.instrs.now y.pc) same reach in
    let step : ControlPasses c.body.now c.instrs.now i.pc j.pc = (i, (there_at c.instrs.now k i ei, refl), ways) in
    (j, ej, by_list (ControlPasses c.body.now c.instrs.now) 0 (more (by_cases (ControlPasses c.body.now c.instrs.now) 0 0 i.pc r.0 stay r.1) step))

module _ (c : Code) (next : ℕ) (items : List ℕ) (le : length items ≤ next) (code : IsCode c) (t : Closing (IsReachedAt c) (Steps c) next items) (zero_in : Contains items 0) where
  all_found : {pc : ℕ} → Leads (ControlPasses c.body.now c.instrs.now) 0 pc → (k : ℕ) (j : Instr) → IsAt c.instrs.now k j → j.pc ≡ pc → Contains items k
  all_found stay k j at e =
      let first = t.each 0 zero_in in
      let z : first.0.pc ≡ 0 = code.instrs.first first.0 first.1 in
      subst (Contains items) (one_index c.instrs.now code.order 0 k first.0 j first.1 at (z ∙ sym e)) zero_in
  all_found (more {b} {c = d} r step) k j at e =
      let i = step.0 in
      let n = index_in c.instrs.now i step.1.0 in
      let before = all_found r n.0 i n.1 step.1.1 in
      let ways : GoesTo i j.pc ⊎ Catches c.body.now b j.pc = subst (λ (x : ℕ). GoesTo i x ⊎ Catches c.body.now b x) (sym e) step.2 in
      let ways2 : GoesTo i j.pc ⊎ Catches c.body.now i.pc j.pc = subst (λ (x : ℕ). GoesTo i j.pc ⊎ Catches c.body.now x j.pc) (sym step.1.1) ways in
      t.one n.0 k (taken_all next items le n.0 before) (i, j, n.1, at, ways2)

  pub exact : (k : ℕ) (i : Instr) → IsAt c.instrs.now k i → Contains items k ↔ IsReachable c.body.now c.instrs.now i.pc
  exact k i at = (
    λ has. let h = t.each k has in subst (λ (x : Instr). IsReachable c.body.now c.instrs.now x.pc) (same_instr c.instrs.now k h.0 i h.1 at) h.2,
    λ r. all_found (by_cases (ControlPasses c.body.now c.instrs.now) 0 0 i.pc r.0 stay r.1) k i at refl,
  )

-- what a cover says of its handler
module _ (c : Code) (k : ℕ) (code : IsCode c) (x : Cover) (has : Contains c.covers.now x) (at : x.index ≡ k) where
  pub handler_start : IsStart c.instrs.now x.handler
  handler_start =
      let covered = (code.covers x).0 has in
      let e = covered.2.0 in
      let entry = All-contains (IsEntry c.body.now c.instrs.now) c.body.now.handlers e code.entries covered.2.1 in
      subst (IsStart c.instrs.now) covered.2.4 entry.handler

  pub handler_forced : IsReachedAt c k → IsForced c x.handler 1
  handler_forced reached f are =
      let covered = (code.covers x).0 has in
      let i = covered.0 in
      let ki : IsAt c.instrs.now k i = subst (λ (n : ℕ). IsAt c.instrs.now n i) at covered.1 in
      let r : IsReachable c.body.now c.instrs.now i.pc = subst (λ (y : Instr). IsReachable c.body.now c.instrs.now y.pc) (same_instr c.instrs.now k reached.0 i reached.1 ki) reached.2 in
      are.handler i x.handler (there_at c.instrs.now k i ki, r) covered.2

-- the depth after an instruction is forced where control goes on
pub after_forced : (c : Code) (k : ℕ) (i : Instr) (d next : ℕ) → IsAt c.instrs.now k i → IsReachedAt c k → IsForced c i.pc d
    → (taken i ≤ d → depth_after i d ≤ c.body.now.max_stack → next ≡ depth_after i d) → (pc : ℕ) → GoesTo i pc → IsForced c pc next
after_forced c k i d next at reached forced is pc goes f are =
    let r : IsReachable c.body.now c.instrs.now i.pc = subst (λ (y : Instr). IsReachable c.body.now c.instrs.now y.pc) (same_instr c.instrs.now k reached.0 i reached.1 at) reached.2 in
    let in' : IsReached c.body.now c.instrs.now i = (there_at c.instrs.now k i at, r) in
    let e = forced f are in
    let enough : taken i ≤ d = subst (λ (n : ℕ). taken i ≤ n) e (are.operands i in') in
    let room : depth_after i d ≤ c.body.now.max_stack = subst (λ (n : ℕ). depth_after i n ≤ c.body.now.max_stack) e (are.result i in') in
    are.after i pc in' goes ∙ ap (depth_after i) e ∙ sym (is enough room)

pub index_at : {A : Type 0} (xs : List A) (k : ℕ) → k < length xs → (x : A) × (slice_get xs k ≡ Some x)
index_at [] k w = absurd (omega arith)
index_at (x ∷ xs) k w = let y = get_or (x ∷ xs) k x in (y, slice_get-get_or (x ∷ xs) k x w)

pub start_reached : (c : Code) (i : Instr) → IsCode c → IsAt c.instrs.now 0 i → IsReachedAt c 0
start_reached c i code at = (i, at, ([], sym (code.instrs.first i at)))
