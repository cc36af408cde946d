-- Instructions whose jumps are clamped, and the list of the code or its first fault.
use Rattle.std.proofs.Common.{◌≡◌, ℕ, zero, suc, ◌+◌, ◌<◌, ◌≤◌, List, [], ◌∷◌, ◌++◌, Option, Some, None, length, map, All, Contains, get_or, refl, sym, ap, ◌∙◌, subst, arith}
use Rattle.slicer_ids.specs.Walks.{IsWalk, LeadsBy}
use Rattle.class_form.specs.Bytes.{target_of}
use Rattle.class_form.specs.Instructions.{form_at, distances_of, Stands, Follows, IsStart, Misses, AreInstrs, Instrs, FirstCodeFault, at_instruction, at_jump, checks, FailsFirst}
use Rattle.class_form.specs.declared.pool.Pool.{Pool}
use Rattle.class_form.specs.declared.body.Instr.{Instr}
use Rattle.class_form.specs.declared.code_error.CodeError.{CodeError}
use Rattle.class_form.proofs.CodeLaws.{contains_later}
use Rattle.bytecode.specs.Parts.{clamped, StandsClamped, AreClamped}
use Rattle.bytecode.specs.Starts.{pcs, JumpsWell, MissesFirst}

-- CLAMPED TARGETS

-- what is no pc is clamped to 65535
unclamped : (o : Option ℕ) → clamped o < 65535 → o ≡ Some (clamped o)
unclamped None lt = absurd (omega arith)
unclamped (Some n) lt = ap (λ x. Some x) (omega arith)

clamped_some : (t : ℕ) → t < 65535 → clamped (Some t) ≡ t
clamped_some t lt = omega arith

abbrev jumps : ℕ → List ℕ → List ℕ
jumps pc ds = map (λ d. clamped (target_of pc d)) ds

all_parts : {X : Type 0} (P : X → Type 0) (x : X) (xs : List X) → All P (x ∷ xs) → P x × All P xs
all_parts P x xs all = (all 0 x (omega arith), λ k d lt. all (suc k) d (omega arith))

targets_are : (pc : ℕ) (ds : List ℕ) → All (λ t. t < 65535) (jumps pc ds) → map (target_of pc) ds ≡ map (λ t. Some t) (jumps pc ds)
targets_are pc [] all = refl
targets_are pc (d ∷ ds) all =
    let first = unclamped (target_of pc d) (all_parts (λ t. t < 65535) (clamped (target_of pc d)) (jumps pc ds) all).0 in
    let others = targets_are pc ds (all_parts (λ t. t < 65535) (clamped (target_of pc d)) (jumps pc ds) all).1 in
    cc

-- a target comes from a distance, and a distance gives a target
from_distance : (pc : ℕ) (ds : List ℕ) (t : ℕ) → Contains (jumps pc ds) t → (d : ℕ) × Contains ds d × (clamped (target_of pc d) ≡ t)
from_distance pc [] t c = absurd (omega (arith, c.1))
from_distance pc (d ∷ ds) t (zero, lt, is) = (d, (0, omega arith, refl), is)
from_distance pc (d ∷ ds) t (suc k, lt, is) =
    let r = from_distance pc ds t (k, omega arith, is) in
    (r.0, contains_later ds d r.0 r.1, r.2)

to_target : (pc : ℕ) (ds : List ℕ) (d : ℕ) → Contains ds d → Contains (jumps pc ds) (clamped (target_of pc d))
to_target pc [] d c = absurd (omega (arith, c.1))
to_target pc (x ∷ ds) d (zero, lt, is) = (0, omega arith, ap (λ y. clamped (target_of pc y)) is)
to_target pc (x ∷ ds) d (suc k, lt, is) = contains_later (jumps pc ds) _ _ (to_target pc ds d (k, omega arith, is))

-- LISTS

module _ (code : List ℕ) (pool : Pool) where
  pub clamped_push : (from : ℕ) (xs : List Instr) (to : ℕ) (i : Instr) → AreClamped code pool from xs to → StandsClamped code pool to i
      → AreClamped code pool from (xs ++ i ∷ []) (to + i.size)
  clamped_push from [] to i h s = (subst (λ p. StandsClamped code pool p i) (sym h) s, ap (λ p. p + i.size) h)
  clamped_push from (x ∷ xs) to i h s = (h.0, clamped_push (from + x.size) xs to i h.1 s)

  pub clamped_walk : (from : ℕ) (xs : List Instr) (to : ℕ) → AreClamped code pool from xs to → LeadsBy (Follows code pool) from to
  clamped_walk from [] to h = ([], h)
  clamped_walk from (x ∷ xs) to h =
      let w = clamped_walk (from + x.size) xs to h.1 in
      ((from + x.size) ∷ w.0, ((h.0.0.inside, h.0.0.passes, ap (λ n. from + n) h.0.0.size), w.1))

  walk_more : (a : ℕ) (ws : List ℕ) (b c : ℕ) → IsWalk (Follows code pool) a ws b → Follows code pool b c → IsWalk (Follows code pool) a (ws ++ c ∷ []) c
  walk_more a [] b c w f = (subst (λ p. Follows code pool p c) (sym w) f, refl)
  walk_more a (v ∷ ws) b c w f = (w.0, walk_more v ws b c w.1 f)

  next : (x : Instr) (from : ℕ) → Stands code pool from x → Follows code pool from (from + x.size)
  next x from s = (s.inside, s.passes, ap (λ n. from + n) s.size)

  -- each instruction begins at a start
  starts : (from : ℕ) (xs : List Instr) (to t : ℕ) → LeadsBy (Follows code pool) 0 from → AreClamped code pool from xs to → Contains (pcs xs) t → IsStart code pool t
  starts from [] to t w h c = absurd (omega (arith, c.1))
  starts from (x ∷ xs) to t w h (zero, lt, is) = subst (IsStart code pool) (sym h.0.0.place ∙ is) (w, h.0.0.inside)
  starts from (x ∷ xs) to t w h (suc k, lt, is) =
      starts (from + x.size) xs to t (w.0 ++ (from + x.size) ∷ [], walk_more 0 w.0 from (from + x.size) w.1 (next x from h.0.0)) h.1 (k, omega arith, is)

  -- .. and each start is that of an instruction
  listed : (from : ℕ) (xs : List Instr) (ws : List ℕ) (t : ℕ) → AreClamped code pool from xs (length code) → IsWalk (Follows code pool) from ws t → t < length code → Contains (pcs xs) t
  listed from [] [] t h w lt = absurd (omega (arith, h, w))
  listed from [] (v ∷ ws) t h w lt = let below = w.0.0 in absurd (omega (arith, h))
  listed from (x ∷ xs) [] t h w lt = (0, omega arith, h.0.0.place ∙ w)
  listed from (x ∷ xs) (v ∷ ws) t h w lt =
      let e : v ≡ from + x.size = w.0.2 ∙ ap (λ n. from + n) (sym h.0.0.size) in
      contains_later (pcs xs) x.pc t (listed (from + x.size) xs ws t h.1 (subst (λ p. IsWalk (Follows code pool) p ws t) e w.1) lt)

  pub pcs_within : (from : ℕ) (xs : List Instr) (to : ℕ) → AreClamped code pool from xs to → All (λ i. i.pc < length code) xs
  pcs_within from [] to h k d lt = absurd (omega arith)
  pcs_within from (x ∷ xs) to h zero d lt = let e = h.0.0.place in let below = h.0.0.inside in omega arith
  pcs_within from (x ∷ xs) to h (suc k) d lt = pcs_within (from + x.size) xs to h.1 k d (omega arith)

  -- where all jumps lead to instructions, the list is that of the code
  all_jump : (all : List Instr) → length code < 65536 → ((t : ℕ) → Contains (pcs all) t → IsStart code pool t)
      → (from : ℕ) (xs : List Instr) → AreClamped code pool from xs (length code) → All (JumpsWell (pcs all)) xs → AreInstrs code pool from xs (length code)
  all_jump all fits s from [] h j = h
  all_jump all fits s from (x ∷ xs) h j =
      let split = all_parts (JumpsWell (pcs all)) x xs j in
      let far : All (λ t. t < 65535) x.targets = λ k d lt. omega (arith, (s (get_or x.targets k d) (split.0 k d lt)).1) in (
        h.0.0,
        subst (λ ts. map (target_of from) (distances_of code from (form_at code from)) ≡ map (λ t. Some t) ts) (sym h.0.1)
            (targets_are from (distances_of code from (form_at code from)) (subst (All (λ t. t < 65535)) h.0.1 far)),
        (λ k d lt. s (get_or x.targets k d) (split.0 k d lt)),
        all_jump all fits s (from + x.size) xs h.1 split.1,
      )

  pub are_instrs : (xs : List Instr) → length code < 65536 → AreClamped code pool 0 xs (length code) → All (JumpsWell (pcs xs)) xs → Instrs code pool xs
  are_instrs xs fits h j = all_jump xs fits (λ t c. starts 0 xs (length code) t ([], refl) h c) 0 xs h j

  -- an instruction with a jump to none misses, and one whose jumps lead to instructions doesn't
  misses : (all : List Instr) → length code < 65536 → ((t : ℕ) → IsStart code pool t → Contains (pcs all) t)
      → (pc : ℕ) (i : Instr) → StandsClamped code pool pc i → (t : ℕ) → Contains i.targets t → (Contains (pcs all) t → ⊥) → Misses code pool pc
  misses all fits l pc i s t c none =
      let r = from_distance pc (distances_of code pc (form_at code pc)) t (subst (λ ts. Contains ts t) s.1 c) in (
        r.0,
        r.1,
        λ u e st. none (subst (Contains (pcs all)) (sym (clamped_some u (omega (arith, st.1))) ∙ ap clamped (sym e) ∙ r.2) (l u st)),
      )

  never_misses : (all : List Instr) → length code < 65536 → ((t : ℕ) → Contains (pcs all) t → IsStart code pool t)
      → (pc : ℕ) (i : Instr) → StandsClamped code pool pc i → JumpsWell (pcs all) i → Misses code pool pc → ⊥
  never_misses all fits s pc i h j m =
      let ds = distances_of code pc (form_at code pc) in
      let c = subst (λ ts. Contains ts (clamped (target_of pc m.0))) (sym h.1) (to_target pc ds m.0 m.1) in
      let st = s (clamped (target_of pc m.0)) (subst (Contains (pcs all)) c.2 (j c.0 (clamped (target_of pc m.0)) c.1)) in
      m.2 (clamped (target_of pc m.0)) (unclamped (target_of pc m.0) (omega (arith, st.1))) st

  -- the first instruction with a jump to none is the least such place
  from_below : (from : ℕ) (xs : List Instr) (t : ℕ) → AreClamped code pool from xs (length code) → Contains (pcs xs) t → from ≤ t
  from_below from [] t h c = absurd (omega (arith, c.1))
  from_below from (x ∷ xs) t h (zero, lt, is) = let e = sym h.0.0.place ∙ is in omega arith
  from_below from (x ∷ xs) t h (suc k, lt, is) = let le = from_below (from + x.size) xs t h.1 (k, omega arith, is) in omega arith

  least : (all : List Instr) → length code < 65536 → ((t : ℕ) → Contains (pcs all) t → IsStart code pool t)
      → (from : ℕ) (before : List Instr) (i : Instr) (after : List Instr) → AreClamped code pool from (before ++ i ∷ after) (length code)
      → All (JumpsWell (pcs all)) before → (other : ℕ) → other < i.pc → Contains (pcs (before ++ i ∷ after)) other → Misses code pool other → ⊥
  least all fits s from [] i after h j other lt c m = let le = from_below from (i ∷ after) other h c in let e = h.0.0.place in absurd (omega arith)
  least all fits s from (x ∷ before) i after h j other lt (zero, below, is) m =
      let split = all_parts (JumpsWell (pcs all)) x before j in
      never_misses all fits s from x h.0 split.0 (subst (Misses code pool) (sym is ∙ h.0.0.place) m)
  least all fits s from (x ∷ before) i after h j other lt (suc k, below, is) m =
      let split = all_parts (JumpsWell (pcs all)) x before j in
      least all fits s (from + x.size) before i after h.1 split.1 other lt (k, omega arith, is) m

  -- the instruction at its place
  stands_at : (from : ℕ) (before : List Instr) (i : Instr) (after : List Instr) → AreClamped code pool from (before ++ i ∷ after) (length code) → StandsClamped code pool i.pc i
  stands_at from [] i after h = subst (λ p. StandsClamped code pool p i) (sym h.0.0.place) h.0
  stands_at from (x ∷ before) i after h = stands_at (from + x.size) before i after h.1

  among : (before : List Instr) (i : Instr) (after : List Instr) → Contains (pcs (before ++ i ∷ after)) i.pc
  among [] i after = (0, omega arith, refl)
  among (x ∷ before) i after = contains_later (pcs (before ++ i ∷ after)) x.pc i.pc (among before i after)

  pub jump_fault : (xs : List Instr) (fault : CodeError) → length code < 65536 → AreClamped code pool 0 xs (length code) → MissesFirst (pcs xs) xs fault → FirstCodeFault code pool fault
  jump_fault xs fault fits h (before, i, after, is, j, m, e) =
      let h' : AreClamped code pool 0 (before ++ i ∷ after) (length code) = subst (λ ys. AreClamped code pool 0 ys (length code)) is h in
      let s : (t : ℕ) → Contains (pcs xs) t → IsStart code pool t = λ t c. starts 0 xs (length code) t ([], refl) h c in
      let l : (t : ℕ) → IsStart code pool t → Contains (pcs xs) t = λ t st. listed 0 xs st.0.0 t h st.0.1 st.1 in
      let here : Contains (pcs xs) i.pc = subst (λ ys. Contains (pcs ys) i.pc) (sym is) (among before i after) in
      at_jump {pc = i.pc} (clamped_walk 0 xs (length code) h) (s i.pc here)
      (misses xs fits l i.pc i (stands_at 0 before i after h') m.0 m.1 m.2)
      (λ other lt st n. least xs fits s 0 before i after h' j other lt (subst (λ ys. Contains (pcs ys) other) is (l other st)) n) e

  pub instruction_fault : (xs : List Instr) (pc : ℕ) (fault : CodeError) → pc < length code → AreClamped code pool 0 xs pc → FailsFirst code pool pc fault checks → FirstCodeFault code pool fault
  instruction_fault xs pc fault lt h f = at_instruction {pc = pc} (clamped_walk 0 xs pc h, lt) f
