-- What the shape of every method's code is like, that there is one, and that there is one first fault where there is none.
use Rattle.std.proofs.Common.{◌≡◌, ◌<◌, ◌≤◌, ◌+◌, ◌-◌, ℕ, List, [], ◌∷◌, length, take, get_or, sum, All, AllPairs, Contains, Some, ◌⊎◌, inl, inr, refl, sym, ap, subst, ◌∙◌, arith}
use Rattle.std.specs.Prelude.{slice_get, IsTrue}
use Rattle.std.proofs.Math.Nat.{le-max_right}
use Rattle.std.proofs.lemmas.Bool.{cases_lt}
use Rattle.std.proofs.lemmas.Option.{slice_get_within, slice_get-get_or, get_or_from_slice_get, same_Some}
use Rattle.std.proofs.lemmas.List.{get_or-take, length-take}
use Rattle.std.proofs.lemmas.List.Sums.{sum_by-cons}
use Rattle.std.proofs.lemmas.List.Elements.{All-contains, All-head, All-tail, Contains-get_or}
use Rattle.slicer_ids.specs.Sets.{IsOrderedListOf}
use Rattle.slicer_ids.specs.Walks.{Leads, stay, more, LeadsBy}
use Rattle.slicer_ids.proofs.WalkForms.{by_cases, by_list}
use Rattle.class_form.specs.Table.{opcode_of}
use Rattle.class_form.specs.declared.body.Instr.{Instr}
use Rattle.class_form.specs.declared.body.Point.{Point}
use Rattle.class_form.specs.declared.body.Shape.{Shape}
use Rattle.class_form.specs.declared.body.SlotUse.{SlotUse}
use Rattle.class_form.specs.declared.class_file.CodeBody.{CodeBody}
use Rattle.class_form.specs.declared.class_file.Handler.{Handler}
use Rattle.class_form.specs.Shapes.{IsInstrAt, GoesTo, Catches, ControlPasses, IsReachable, IsReached, IsAmong, local_slots, depth_left, depth_after, first_taken, Uses, MovesSlot, MakesSlot, HasLocal, IsEntry, RunsOff, AreDepths, IsPointOf, ArePoints, Shaped, IsLeast, IsFirstBadEntry, HasInstr, BreaksFirst, AreInstrsOf, AreArguments, moves}
use Rattle.class_form.specs.Reaching.{IsPoint, Flows, IsNextPoint, IsFlow}
use Rattle.class_form.proofs.Indices.{index_in, there_at, same_list, one_list, less_asym}
use Rattle.class_form.proofs.InstrOrder.{one_instr}

-- one step further
pub reaches : (body : CodeBody) (instrs : List Instr) (i : Instr) (pc : ℕ) → IsReached body instrs i → GoesTo i pc ⊎ Catches body i.pc pc → IsReachable body instrs pc
reaches body instrs i pc reached ways =
    let step : ControlPasses body instrs i.pc pc = (i, (reached.0, refl), ways) in
    by_list (ControlPasses body instrs) 0 (more (by_cases (ControlPasses body instrs) 0 0 i.pc reached.1.0 stay reached.1.1) step)

-- depths that fit together are the same at what is reached
same_depth : (body : CodeBody) (instrs : List Instr) (f g : ℕ → ℕ) → AreDepths body instrs f → AreDepths body instrs g → {pc : ℕ} → Leads (ControlPasses body instrs) 0 pc → f pc ≡ g pc
same_depth body instrs f g p q stay = p.start ∙ sym q.start
same_depth body instrs f g p q {pc} (more {b} r step) =
    let i = step.0 in
    let reached : IsReached body instrs i = (step.1.0, subst (IsReachable body instrs) (sym step.1.1) (by_list (ControlPasses body instrs) 0 r)) in
    let before : f i.pc ≡ g i.pc = ap f step.1.1 ∙ same_depth body instrs f g p q r ∙ ap g (sym step.1.1) in
    elim step.2 [
      | inl goes ↦ p.after i pc reached goes ∙ ap (depth_after i) before ∙ sym (q.after i pc reached goes)
      | inr caught ↦ let c = subst (λ (n : ℕ). Catches body n pc) (sym step.1.1) caught in p.handler i pc reached c ∙ sym (q.handler i pc reached c)
    ]

same_fields : (p q : Point) → p.pc ≡ q.pc → p.op ≡ q.op → p.depth ≡ q.depth → p.next ≡ q.next → p.handlers ≡ q.handlers → p.uses ≡ q.uses → p.moves ≡ q.moves → p.makes ≡ q.makes → p ≡ q
same_fields p q a b c d e f g h = rw (← a, ← b, ← c, ← d, ← e, ← f, ← g, ← h) refl

-- the point of an instruction at a depth
one_point : (body : CodeBody) (i : Instr) (p q : Point) → IsPointOf body i p → IsPointOf body i q → p.depth ≡ q.depth → p ≡ q
one_point body i p q a b e = same_fields p q (a.pc ∙ sym b.pc) (a.op ∙ sym b.op) e
    (one_list (λ (m n : ℕ). m < n) (GoesTo i) less_asym p.next q.next a.next b.next)
    (one_list (λ (m n : ℕ). m < n) (Catches body i.pc) less_asym p.handlers q.handlers a.handlers b.handlers)
    (one_list (λ (u v : SlotUse). u.slot < v.slot) (Uses body i q.depth) (λ u v. less_asym u.slot v.slot) p.uses q.uses (subst (λ (d : ℕ). IsOrderedListOf (λ (u v : SlotUse). u.slot < v.slot) p.uses (Uses body i d)) e a.uses) b.uses)
    (one_list (λ (m n : ℕ × ℕ). m.1 < n.1) (MovesSlot body i q.depth) (λ m n. less_asym m.1 n.1) p.moves q.moves (subst (λ (d : ℕ). IsOrderedListOf (λ (m n : ℕ × ℕ). m.1 < n.1) p.moves (MovesSlot body i d)) e a.moves) b.moves)
    (one_list (λ (m n : ℕ). m < n) (MakesSlot body i q.depth) less_asym p.makes q.makes (subst (λ (d : ℕ). IsOrderedListOf (λ (m n : ℕ). m < n) p.makes (MakesSlot body i d)) e a.makes) b.makes)

module _ (body : CodeBody) (instrs : List Instr) (are : AreInstrsOf (length body.code) instrs) where
  points_within : (f g : ℕ → ℕ) (xs ys : List Point) → AreDepths body instrs f → AreDepths body instrs g → ArePoints body instrs f xs → ArePoints body instrs g ys → (p : Point) → Contains xs p → Contains ys p
  points_within f g xs ys df dg px py p c =
      let o = px.each p c in
      let q = py.whole o.0.pc o.1.1 in
      let n = py.each q.0 q.1 in
      let same : n.0 ≡ o.0 = one_instr (length body.code) instrs are n.0 o.0 n.1.0 o.1.0 (sym n.2.pc ∙ q.2) in
      let depth : p.depth ≡ q.0.depth = o.3 ∙ same_depth body instrs f g df dg (by_cases (ControlPasses body instrs) 0 0 o.0.pc o.1.1.0 stay o.1.1.1) ∙ ap (λ (i : Instr). g i.pc) (sym same) ∙ sym n.3 in
      let e : p ≡ q.0 = one_point body o.0 p q.0 o.2 (subst (λ (i : Instr). IsPointOf body i q.0) same n.2) depth in
      subst (Contains ys) (sym e) q.1

  -- body, instructions and arguments determine the shape
  pub one_shape : (arguments : List ℕ) (s t : Shape) → Shaped body instrs arguments s → Shaped body instrs arguments t → s ≡ t
  one_shape arguments s t a b =
      let points : s.points ≡ t.points = same_list (λ (p q : Point). p.pc < q.pc) (λ p q. less_asym p.pc q.pc) s.points t.points a.depths.2.order b.depths.2.order
      (points_within a.depths.0 b.depths.0 s.points t.points a.depths.1 b.depths.1 a.depths.2 b.depths.2)
      (points_within b.depths.0 a.depths.0 t.points s.points b.depths.1 a.depths.1 b.depths.2 a.depths.2) in
      made s t (a.count ∙ sym b.count) (a.formals ∙ sym b.formals) points
    where
      made : (x y : Shape) → x.max_locals ≡ y.max_locals → x.arguments ≡ y.arguments → x.points ≡ y.points → x ≡ y
      made x y m n p = rw (← m, ← n, ← p) refl

bad_among : (body : CodeBody) (instrs : List Instr) (pc : ℕ) → IsFirstBadEntry body instrs pc → All (IsEntry body instrs) body.handlers → ⊥
bad_among body instrs pc bad all = bad.3 (All-contains (IsEntry body instrs) body.handlers bad.1 all (there_at body.handlers bad.0 bad.1 bad.2))

bad_local : (body : CodeBody) (instrs : List Instr) (pc : ℕ) → IsLeast (HasInstr instrs (λ i. HasLocal body i → ⊥)) pc → All (HasLocal body) instrs → ⊥
bad_local body instrs pc least all = least.0.2 (All-contains (HasLocal body) instrs least.0.0 all least.0.1.0)

bad_end : (body : CodeBody) (instrs : List Instr) (pc : ℕ) → IsLeast (HasInstr instrs (λ i. IsReached body instrs i × RunsOff body i)) pc → ((i : Instr) → IsReached body instrs i → RunsOff body i → ⊥) → ⊥
bad_end body instrs pc least stays = stays least.0.0 least.0.2.0 least.0.2.1

-- a body with a shape breaks no rule
pub no_fault : (body : CodeBody) (instrs : List Instr) (arguments : List ℕ) (s : Shape) (rule pc : ℕ) → Shaped body instrs arguments s → BreaksFirst body instrs rule pc → ⊥
no_fault body instrs arguments s rule pc h (inl (r, bad)) = bad_among body instrs pc bad h.entries
no_fault body instrs arguments s rule pc h (inr (inl (r, entries, least))) = bad_local body instrs pc least h.locals
no_fault body instrs arguments s rule pc h (inr (inr (inl (r, entries, locals, least)))) = bad_end body instrs pc least h.ends
no_fault body instrs arguments s rule pc h (inr (inr (inr (r, entries, locals, stays, none, z)))) = none h.depths.0 h.depths.1

one_least : (P : ℕ → Type 0) (a b : ℕ) → IsLeast P a → IsLeast P b → a ≡ b
one_least P a b p q = omega (arith, p.1 b q.0, q.1 a p.0)

one_bad_entry : (body : CodeBody) (instrs : List Instr) (a b : ℕ) → IsFirstBadEntry body instrs a → IsFirstBadEntry body instrs b → a ≡ b
one_bad_entry body instrs a b p q = elim (cases_lt p.0 q.0) [
  | inl less ↦ absurd (p.3 (earlier q.0 p.0 p.1 q.4 (slice_get_within body.handlers q.0 q.1 q.2) less p.2))
  | inr le ↦ elim (cases_lt q.0 p.0) [
    | inl less ↦ absurd (q.3 (earlier p.0 q.0 q.1 p.4 (slice_get_within body.handlers p.0 p.1 p.2) less q.2))
    | inr ge ↦
        let k : p.0 ≡ q.0 = omega arith in
        let same : p.1 ≡ q.1 = same_Some p.1 q.1 (sym (subst (λ (n : ℕ). slice_get body.handlers n ≡ Some p.1) k p.2) ∙ q.2) in
        sym p.5 ∙ ap (λ (e : Handler). e.start) same ∙ q.5
  ]
]
  where
    earlier : (k j : ℕ) (x : Handler) → All (IsEntry body instrs) (take k body.handlers) → k < length body.handlers → j < k → slice_get body.handlers j ≡ Some x → IsEntry body instrs x
    earlier k j x all within lt e = subst (IsEntry body instrs) (get_or-take k body.handlers j x lt ∙ get_or_from_slice_get body.handlers j x x e) (all j x (omega (arith, length-take k body.handlers)))

-- there is one first fault
pub one_fault : (body : CodeBody) (instrs : List Instr) (r p q n : ℕ) → BreaksFirst body instrs r p → BreaksFirst body instrs q n → (r ≡ q) × (p ≡ n)
one_fault body instrs r p q n (inl (a, x)) (inl (b, y)) = (a ∙ sym b, one_bad_entry body instrs p n x y)
one_fault body instrs r p q n (inl (a, x)) (inr (inl (b, e, y))) = absurd (bad_among body instrs p x e)
one_fault body instrs r p q n (inl (a, x)) (inr (inr (inl (b, e, l, y)))) = absurd (bad_among body instrs p x e)
one_fault body instrs r p q n (inl (a, x)) (inr (inr (inr (b, e, l, s, y, z)))) = absurd (bad_among body instrs p x e)
one_fault body instrs r p q n (inr (inl (a, e, x))) (inl (b, y)) = absurd (bad_among body instrs n y e)
one_fault body instrs r p q n (inr (inl (a, e, x))) (inr (inl (b, d, y))) = (a ∙ sym b, one_least (HasInstr instrs (λ i. HasLocal body i → ⊥)) p n x y)
one_fault body instrs r p q n (inr (inl (a, e, x))) (inr (inr (inl (b, d, l, y)))) = absurd (bad_local body instrs p x l)
one_fault body instrs r p q n (inr (inl (a, e, x))) (inr (inr (inr (b, d, l, s, y, z)))) = absurd (bad_local body instrs p x l)
one_fault body instrs r p q n (inr (inr (inl (a, e, l, x)))) (inl (b, y)) = absurd (bad_among body instrs n y e)
one_fault body instrs r p q n (inr (inr (inl (a, e, l, x)))) (inr (inl (b, d, y))) = absurd (bad_local body instrs n y l)
one_fault body instrs r p q n (inr (inr (inl (a, e, l, x)))) (inr (inr (inl (b, d, m, y)))) = (a ∙ sym b, one_least (HasInstr instrs (λ i. IsReached body instrs i × RunsOff body i)) p n x y)
one_fault body instrs r p q n (inr (inr (inl (a, e, l, x)))) (inr (inr (inr (b, d, m, s, y, z)))) = absurd (bad_end body instrs p x s)
one_fault body instrs r p q n (inr (inr (inr (a, e, l, s, x, z)))) (inl (b, y)) = absurd (bad_among body instrs n y e)
one_fault body instrs r p q n (inr (inr (inr (a, e, l, s, x, z)))) (inr (inl (b, d, y))) = absurd (bad_local body instrs n y l)
one_fault body instrs r p q n (inr (inr (inr (a, e, l, s, x, z)))) (inr (inr (inl (b, d, m, y)))) = absurd (bad_end body instrs n y s)
one_fault body instrs r p q n (inr (inr (inr (a, e, l, s, x, z)))) (inr (inr (inr (b, d, m, t, y, w)))) = (a ∙ sym b, z ∙ sym w)
