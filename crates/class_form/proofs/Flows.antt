-- The shape of code lets definitions be followed.
use Rattle.std.proofs.Common.{◌≡◌, ◌⊎◌, ℕ, ◌+◌, ◌<◌, ◌≤◌, List, [], ◌∷◌, length, All, Contains, refl, sym, ap, ◌∙◌, subst, inl, inr, arith}
use Rattle.std.specs.Prelude.{sum}
use Rattle.std.proofs.lemmas.Option.{slice_get_within}
use Rattle.std.proofs.lemmas.List.Elements.{All-contains, All-head, All-tail}
use Rattle.std.proofs.lemmas.List.Sums.{sum_by-cons}
use Rattle.slicer_ids.specs.Walks.{stay, more}
use Rattle.slicer_ids.proofs.WalkForms.{by_cases, by_list}
use Rattle.class_form.specs.Shapes.{GoesTo, Catches, ControlPasses, IsReachable, IsReached, MovesSlot, MakesSlot, HasLocal, IsPointOf, Shaped, AreArguments, depth_after}
use Rattle.class_form.specs.Reaching.{IsPoint, Flows, IsNextPoint, IsFlow}
use Rattle.class_form.specs.declared.class_file.CodeBody.{CodeBody}
use Rattle.class_form.specs.declared.body.Instr.{Instr}
use Rattle.class_form.specs.declared.body.Point.{Point}
use Rattle.class_form.specs.declared.body.Shape.{Shape}

count_sum : (xs : List ℕ) → All (λ w. (1 ≤ w) × (w ≤ 2)) xs → length xs ≤ sum xs
count_sum [] all = omega arith
count_sum (x ∷ xs) all =
    let first = All-head (λ (w : ℕ). (1 ≤ w) × (w ≤ 2)) x xs all in
    omega (arith, count_sum xs (All-tail (λ (w : ℕ). (1 ≤ w) × (w ≤ 2)) x xs all), sum_by-cons (λ (n : ℕ). n) x xs, first.0)

module _ (body : CodeBody) (instrs : List Instr) (arguments : List ℕ) (s : Shape) (shaped : Shaped body instrs arguments s) where
  abbrev depth : ℕ → ℕ
  depth = shaped.depths.0

  point : (p : Point) → Contains s.points p → (i : Instr) × IsReached body instrs i × IsPointOf body i p × (p.depth ≡ depth i.pc)
  point p has = shaped.depths.2.each p has

  depth_at : (q : Point) → Contains s.points q → q.depth ≡ depth q.pc
  depth_at q has = let j = point q has in j.3 ∙ ap depth (sym j.2.pc)

  -- the depth where control goes on
  depth_next : (p q : Point) (has : Contains s.points p) → IsNextPoint s p q → q.depth ≡ depth_after (point p has).0 p.depth
  depth_next p q has next =
      let i = point p has in
      depth_at q next.0 ∙ shaped.depths.1.after i.0 q.pc i.1 (All-contains (GoesTo i.0) p.next q.pc i.2.next.each next.1) ∙ ap (depth_after i.0) (sym i.3)

  start : (p : Point) × IsPoint s 0 p
  start = let p = shaped.depths.2.whole 0 ([], refl) in (p.0, (p.1, p.2))

  goes : (a b : ℕ) → Flows s a b → (q : Point) × IsPoint s b q
  goes a b (p, at, ways) =
      let i = point p at.0 in
      let q = shaped.depths.2.whole b (passes i.0 i.1 (on i.0 i.2 ways)) in
      (q.0, (q.1, q.2))
    where
      on : (i : Instr) → IsPointOf body i p → Contains p.next b ⊎ Contains p.handlers b → GoesTo i b ⊎ Catches body i.pc b
      on i is (inl c) = inl (All-contains (GoesTo i) p.next b is.next.each c)
      on i is (inr c) = inr (All-contains (Catches body i.pc) p.handlers b is.handlers.each c)

      passes : (i : Instr) → IsReached body instrs i → GoesTo i b ⊎ Catches body i.pc b → IsReachable body instrs b
      passes i reached h =
          let step : ControlPasses body instrs i.pc b = (i, (reached.0, refl), h) in
          by_list (ControlPasses body instrs) 0 (more (by_cases (ControlPasses body instrs) 0 0 i.pc reached.1.0 stay reached.1.1) step)

  made : (p q : Point) (slot : ℕ) → Contains s.points p → IsNextPoint s p q → Contains p.makes slot → slot < s.max_locals + q.depth
  made p q slot has next c =
      let i = point p has in
      within i.0 (All-contains (HasLocal body) instrs i.0 shaped.locals i.1.0) (depth_next p q has next) (All-contains (MakesSlot body i.0 p.depth) p.makes slot i.2.makes.each c)
    where
      within : (i : Instr) → HasLocal body i → q.depth ≡ depth_after i p.depth → MakesSlot body i p.depth slot → slot < s.max_locals + q.depth
      within i local e (inl (low, high)) = omega (arith, shaped.count, e, high)
      within i local e (inr (low, high)) = omega (arith, shaped.count, high, low, local (omega (arith, low, high)))

  moved : (p : Point) (from to : ℕ) → Contains s.points p → Contains p.moves (from, to) → (s.max_locals ≤ from) × (s.max_locals ≤ to)
  moved p from to has c =
      let i = point p has in
      let m = All-contains (MovesSlot body i.0 p.depth) p.moves (from, to) i.2.moves.each c in
      (omega (arith, shaped.count, m.3), omega (arith, shaped.count, m.4))

  moved_to : (p q : Point) (from to : ℕ) → Contains s.points p → IsNextPoint s p q → Contains p.moves (from, to) → to < s.max_locals + q.depth
  moved_to p q from to has next c =
      let i = point p has in
      let m = All-contains (MovesSlot body i.0 p.depth) p.moves (from, to) i.2.moves.each c in
      omega (arith, shaped.count, m.4, slice_get_within _ m.0 m.1 m.2, depth_next p q has next)

  caught : (p q : Point) → Contains s.points p → Contains s.points q → Contains p.handlers q.pc → 0 < q.depth
  caught p q has has_q c =
      let i = point p has in
      omega (arith, depth_at q has_q, shaped.depths.1.handler i.0 q.pc i.1 (All-contains (Catches body i.0.pc) p.handlers q.pc i.2.handlers.each c))

  pub shape_flows : AreArguments body arguments → IsFlow s
  shape_flows are = record {
    order = shaped.depths.2.order;
    start = start;
    goes = goes;
    formals = subst (λ n. sum s.arguments ≤ n) (sym shaped.count) (subst (λ xs. sum xs ≤ body.max_locals) (sym shaped.formals) are.within);
    few = omega (arith, ap length shaped.formals, count_sum arguments are.widths, are.fit);
    made = made;
    moved = moved;
    moved_to = moved_to;
    caught = caught;
  }
