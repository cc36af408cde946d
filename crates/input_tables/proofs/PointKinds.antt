-- What kind of instruction stands at a point of a body.
use Rattle.std.proofs.Common.{◌≡◌, ◌<◌, ℕ, List, Contains, refl, sym, subst, ◌∙◌, arith}
use Rattle.std.proofs.lemmas.List.Elements.{All-contains}
use Rattle.slicer_ids.specs.declared.ids.MethodId.{MethodId}
use Rattle.class_form.specs.Shapes.{IsPointOf}
use Rattle.class_form.specs.declared.body.Body.{Body}
use Rattle.class_form.specs.declared.body.Instr.{Instr}
use Rattle.class_form.specs.declared.body.Point.{Point}
use Rattle.class_form.specs.declared.class_file.CodeBody.{CodeBody}
use Rattle.program_form.specs.Nodes.{at}
use Rattle.program_form.specs.Programs.{Program, CodeOf}
use Rattle.program_form.specs.Statements.{HasOpcode, IsAt}
use Rattle.program_code.specs.Codes.{IsOfMethod, IsProgramOfCode}
use Rattle.program_code.proofs.OneInstruction.{one_at, one_body, one_by_order}
use Rattle.input_tables.specs.Edges.{HasOp}

module _ (p : Program) (coded : IsProgramOfCode p) (m : MethodId) (b : Body) (among : Contains p.bodies b) (of : b.method ≡ m) where
  abbrev points : List Point
  points = b.shape.points

  pub the : IsOfMethod p b
  the = All-contains (IsOfMethod p) p.bodies b coded.bodies among

  abbrev pub code : CodeBody
  code = the.5

  pub code_here : CodeOf p m code
  code_here = subst (λ (n : MethodId). CodeOf p n code) of (the.0, the.1, the.2, the.3, the.6, the.8)

  -- what stands at a point
  pub instr_at : (t : Point) → Contains points t → (i : Instr) × IsAt p (at m t.pc) b i × IsPointOf code i t
  instr_at t has =
      let each = the.9.shape.2.depths.2.each t has in
      (each.0, (among, of, each.1.0, sym each.2.pc, (t, (has, refl))), each.2)

  one_point : (t u : Point) → Contains points t → Contains points u → t.pc ≡ u.pc → t ≡ u
  one_point t u c d e = one_by_order (λ (y z : Point). y.pc < z.pc) points t u the.9.shape.2.depths.2.order (λ lt. omega (arith, lt, e)) (λ lt. omega (arith, lt, e)) c d

  pub to_kind : (K : ℕ → Type 0) (t : Point) → Contains points t → K t.op → HasOpcode p (at m t.pc) K
  to_kind K t has k = let i = instr_at t has in (b, i.0, i.1, subst K i.2.op k)

  pub from_kind : (K : ℕ → Type 0) (pc : ℕ) → HasOpcode p (at m pc) K → (t : Point) × Contains points t × (t.pc ≡ pc) × K t.op
  from_kind K pc (a, i, is, k) =
      let same : a ≡ b = one_body p coded a b is.0 among (is.1 ∙ sym of) in
      let t = is.4.0 in
      let has : Contains points t = subst (λ (y : Body). Contains y.shape.points t) same is.4.1.0 in
      let j = instr_at t has in
      let place : t.pc ≡ pc = is.4.1.1 in
      let there : IsAt p (at m pc) b j.0 = subst (λ (n : ℕ). IsAt p (at m n) b j.0) place j.1 in
      let one' = one_at p coded (at m pc) a b i j.0 is there in
      (t, has, place, subst K (sym j.2.op) (subst (λ (z : Instr). K z.op) one'.1 k))

  pub kind_here : (K : ℕ → Type 0) (t : Point) → Contains points t → HasOpcode p (at m t.pc) K → K t.op
  kind_here K t has h =
      let u = from_kind K t.pc h in
      subst (λ (z : Point). K z.op) (one_point u.0 t u.1 has u.2) u.3

  pub value_kind : (K : ℕ → Type 0) (pc op : ℕ) → HasOp points pc op → K op → HasOpcode p (at m pc) K
  value_kind K pc op (t, c, e, f) k = subst (λ (n : ℕ). HasOpcode p (at m n) K) e (to_kind K t c (subst K (sym f) k))
