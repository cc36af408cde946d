-- Control in a body, between program counters and between the numbers of its points.
use Rattle.std.proofs.Common.{◌≡◌, ◌↔◌, ℕ, List, [], ◌∷◌, Contains, Some, refl, sym, ap, subst, ◌∙◌}
use Rattle.std.specs.Prelude.{slice_get}
use Rattle.std.proofs.lemmas.Option.{same_Some}
use Rattle.slicer_ids.specs.Walks.{IsWalk, LeadsBy, LeadsOn}
use Rattle.slicer_ids.specs.declared.ids.MethodId.{MethodId}
use Rattle.class_form.specs.Reaching.{Flows, IsPoint}
use Rattle.class_form.specs.declared.body.Body.{Body}
use Rattle.class_form.specs.declared.body.Point.{Point}
use Rattle.class_form.proofs.Indices.{index_in}
use Rattle.dep_form.specs.declared.input.MethodInput.{MethodInput}
use Rattle.dep_form.specs.Inputs.{Flow}
use Rattle.program_form.specs.Programs.{Program}
use Rattle.constraint_form.specs.Asked.{IsReadProgram}
use Rattle.constraint_form.proofs.Instructions.{one_body}
use Rattle.fact_form.specs.FactTables.{IsBodyIn, IsPointAt, IsFlowAt}

module _ (p : Program) (asked : IsReadProgram p) (m : MethodId) (y : Body) (is : IsBodyIn p m y) where
  -- the point of this number in the body stands at the pc
  abbrev pub StandsHere : ℕ → ℕ → Type 0
  StandsHere q pc = (t : Point) × (slice_get y.shape.points q ≡ Some t) × (t.pc ≡ pc)

  pub to_point : (q pc : ℕ) → StandsHere q pc → IsPointAt p m q pc
  to_point q pc (t, at, e) = (y, t, is, at, e)

  same_body : (b : Body) → IsBodyIn p m b → b ≡ y
  same_body b h = one_body p asked b y h.0 is.0 (h.1 ∙ sym is.1)

  pub of_point : (q pc : ℕ) → IsPointAt p m q pc → StandsHere q pc
  of_point q pc (b, t, h, at, e) = (t, subst (λ (z : Body). slice_get z.shape.points q ≡ Some t) (same_body b h) at, e)

  pub number_of_point : (pc : ℕ) (t : Point) → IsPoint y.shape pc t → (q : ℕ) × StandsHere q pc
  number_of_point pc t (c, e) = let q = index_in y.shape.points t c in (q.0, (t, q.1, e))

  start_of : (a b : ℕ) → Flows y.shape a b → (q : ℕ) × StandsHere q a
  start_of a b (t, point, next) = number_of_point a t point

  -- a step between points that stand there is a flow
  step_there : (q r a b : ℕ) → StandsHere q a → StandsHere r b → Flows y.shape a b → IsFlowAt p m q r
  step_there q r a b (t, at, e) (u, there, f) flows =
      (y, t, u, is, at, there, subst (λ z. Flows y.shape z u.pc) (sym e) (subst (λ z. Flows y.shape a z) (sym f) flows))

  next_number : (xs : List ℕ) (a b : ℕ) → IsWalk (Flows y.shape) a xs b → (r : ℕ) × StandsHere r b → (q : ℕ) × StandsHere q a
  next_number [] a b e last = subst (λ z. (q : ℕ) × StandsHere q z) (sym e) last
  next_number (x ∷ xs) a b w last = start_of a x w.0

  module _ (i : MethodInput) (flow : (q r : ℕ) → Contains i.flow (q, r) ↔ IsFlowAt p m q r) where
    walk_there : (xs : List ℕ) (a b : ℕ) → IsWalk (Flows y.shape) a xs b → (r : ℕ) × StandsHere r b → (q : ℕ) → StandsHere q a → (e : ℕ) × StandsHere e b × LeadsBy (Flow i) q e
    walk_there [] a b e last q here = (q, subst (λ z. StandsHere q z) e here, ([], refl))
    walk_there (x ∷ xs) a b w last q here =
        let next = next_number xs x b w.1 last in
        let rest = walk_there xs x b w.1 last next.0 next.1 in
        (rest.0, rest.1, (next.0 ∷ rest.2.0, ((flow q next.0).1 (step_there q next.0 a x here next.1 w.0), rest.2.1)))

    -- where control leads from one point to another, it does so by number
    pub leads_there : (a b : ℕ) → LeadsOn (Flows y.shape) a b → (r : ℕ) × StandsHere r b → (q : ℕ) × (e : ℕ) × StandsHere q a × StandsHere e b × LeadsOn (Flow i) q e
    leads_there a b (x, step, (xs, w)) last =
        let first = start_of a x step in
        let next = next_number xs x b w last in
        let rest = walk_there xs x b w last next.0 next.1 in
        (first.0, rest.0, first.1, rest.1, (next.0, (flow first.0 next.0).1 (step_there first.0 next.0 a x first.1 next.1 step), rest.2))

    step_back : (q r : ℕ) → Flow i q r → (a : ℕ) → StandsHere q a → (b : ℕ) × StandsHere r b × Flows y.shape a b
    step_back q r c a (t, at, e) = by_flow ((flow q r).0 c)
      where
        by_flow : IsFlowAt p m q r → (b : ℕ) × StandsHere r b × Flows y.shape a b
        by_flow (z, v, u, h, here, there, flows) =
            let same = same_body z h in
            let mine : slice_get y.shape.points q ≡ Some v = subst (λ (k : Body). slice_get k.shape.points q ≡ Some v) same here in
            let one : v ≡ t = same_Some v t (sym mine ∙ at) in
            let steps : Flows y.shape v.pc u.pc = subst (λ (k : Body). Flows k.shape v.pc u.pc) same flows in
            let pcs : v.pc ≡ a = ap (λ (k : Point). k.pc) one ∙ e in
            (u.pc, (u, subst (λ (k : Body). slice_get k.shape.points r ≡ Some u) same there, refl), subst (λ k. Flows y.shape k u.pc) pcs steps)

    one_pc : (q a b : ℕ) → StandsHere q a → StandsHere q b → a ≡ b
    one_pc q a b (t, at, e) (u, there, f) = sym e ∙ ap (λ (k : Point). k.pc) (same_Some t u (sym at ∙ there)) ∙ f

    walk_back : (qs : List ℕ) (q r a b : ℕ) → IsWalk (Flow i) q qs r → StandsHere q a → StandsHere r b → LeadsBy (Flows y.shape) a b
    walk_back [] q r a b e here there = ([], one_pc r a b (subst (λ z. StandsHere z a) e here) there)
    walk_back (z ∷ zs) q r a b w here there =
        let step = step_back q z w.0 a here in
        let rest = walk_back zs z r step.0 b w.1 step.1 there in
        (step.0 ∷ rest.0, (step.2, rest.1))

    pub leads_back : (q r a b : ℕ) → LeadsOn (Flow i) q r → StandsHere q a → StandsHere r b → LeadsOn (Flows y.shape) a b
    leads_back q r a b (z, step, (zs, w)) here there =
        let first = step_back q z step a here in
        (first.0, first.2, walk_back zs z r first.0 b w first.1 there)
