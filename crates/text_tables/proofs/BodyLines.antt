-- The statements of a body with their lines are those of its method.
use Rattle.std.proofs.Common.{◌≡◌, ◌↔◌, ◌<◌, ◌+◌, ℕ, List, [], Contains, Option, Some, refl, sym, ap, subst, ◌∙◌, arith}
use Rattle.std.specs.Prelude.{slice_get}
use Rattle.std.specs.Ordering.{nat_cmp}
use Rattle.std.specs.Cmp.{nat_cmp_is}
use Rattle.std.specs.declared.cmp.Ordering.TheVariants.{Less}
use Rattle.std.proofs.lemmas.Option.{slice_get_within}
use Rattle.std.proofs.lemmas.List.Elements.{All-contains}
use Rattle.slicer_ids.specs.declared.ids.MethodId.{MethodId}
use Rattle.class_form.specs.declared.body.Body.{Body}
use Rattle.class_form.specs.declared.body.Point.{Point}
use Rattle.class_form.specs.declared.class_file.CodeBody.{CodeBody}
use Rattle.class_form.proofs.Indices.{index_in, there_at}
use Rattle.dep_form.specs.Orders.{RiseBy}
use Rattle.line_numbers.specs.LineTables.{IsLineAt, lines_of}
use Rattle.line_numbers.proofs.OneLine.{one_line_below}
use Rattle.program_form.specs.Programs.{Program, CodeOf}
use Rattle.program_form.specs.Statements.{HasOpcode}
use Rattle.program_form.specs.Lines.{IsLineOf}
use Rattle.program_code.specs.Codes.{IsOfMethod, IsProgramOfCode}
use Rattle.program_code.proofs.OneInstruction.{coded_body, one_body}
use Rattle.fact_form.proofs.ItemLists.{mapped, map_at, pair_at, pairs_of}
use Rattle.text_tables.specs.MethodLines.{AreLinesOf, AreMethodLines, ArePointsInOrder, HasLineIn, HasPcIn, entry_of, statement_at}
use Rattle.text_tables.proofs.LineMeaning.{line_meant, line_found}

-- program counters of points rise
pub entries_rise : (code : CodeBody) (points : List Point) (lines : List (ℕ × Option ℕ)) → ArePointsInOrder points → AreLinesOf code points lines → RiseBy nat_cmp (λ (x : ℕ × Option ℕ). x.0) lines
entries_rise code points lines order are = pairs_of (λ (x y : ℕ × Option ℕ). nat_cmp x.0 y.0 ≡ Less) lines (λ i j x y lt ex ey.
    let p = mapped (entry_of are.line) points i x (subst (λ (es : List (ℕ × Option ℕ)). slice_get es i ≡ Some x) are.listed ex) in
    let q = mapped (entry_of are.line) points j y (subst (λ (es : List (ℕ × Option ℕ)). slice_get es j ≡ Some y) are.listed ey) in
    let less : p.0.pc < q.0.pc = pair_at (λ (a b : Point). a.pc < b.pc) points order i j p.0 q.0 lt p.1 q.1 in
    let before : x.0 < y.0 = omega (arith, less, ap (λ (e : ℕ × Option ℕ). e.0) p.2, ap (λ (e : ℕ × Option ℕ). e.0) q.2) in
    sym (nat_cmp_is x.0 y.0 Less before))

pub none_rise : (lines : List (ℕ × Option ℕ)) → lines ≡ [] → RiseBy nat_cmp (λ (x : ℕ × Option ℕ). x.0) lines
none_rise lines e = subst (RiseBy nat_cmp (λ (x : ℕ × Option ℕ). x.0)) (sym e) (λ i j d lt within. absurd (omega (arith, within)))

-- the code of a body's method
pub code_of_body : (p : Program) (coded : IsProgramOfCode p) (b : Body) → Contains p.bodies b → (code : CodeBody) × CodeOf p b.method code
code_of_body p coded b among =
    let h : IsOfMethod p b = All-contains (IsOfMethod p) p.bodies b coded.bodies among in
    (h.5, (h.0, h.1, h.2, h.3, h.6, h.8))

module _ (p : Program) (coded : IsProgramOfCode p) (b : Body) (among : Contains p.bodies b) (lines : List (ℕ × Option ℕ))
    (are : (code : CodeBody) → CodeOf p b.method code → AreLinesOf code b.shape.points lines) where
  abbrev code : CodeBody
  code = (code_of_body p coded b among).0

  of : CodeOf p b.method code
  of = (code_of_body p coded b among).1

  -- the point of an entry
  of_entry : (c : CodeBody) (is : AreLinesOf c b.shape.points lines) (k : ℕ) (x : ℕ × Option ℕ) → slice_get lines k ≡ Some x → (q : Point) × (slice_get b.shape.points k ≡ Some q) × (entry_of is.line q ≡ x)
  of_entry c is k x at = mapped (entry_of is.line) b.shape.points k x (subst (λ (es : List (ℕ × Option ℕ)). slice_get es k ≡ Some x) is.listed at)

  to_entry : (c : CodeBody) (is : AreLinesOf c b.shape.points lines) (q : Point) → Contains b.shape.points q → (k : ℕ) × (slice_get lines k ≡ Some (entry_of is.line q))
  to_entry c is q has =
      let i = index_in b.shape.points q has in
      (i.0, subst (λ (es : List (ℕ × Option ℕ)). slice_get es i.0 ≡ Some (entry_of is.line q)) (sym is.listed) (map_at (entry_of is.line) b.shape.points i.0 q i.1))

  abbrev IsStatementAt : ℕ → Type 0
  IsStatementAt pc = HasOpcode p (statement_at b.method pc) (λ op. Unit {0})

  -- a statement has a point of the body
  point_of : (pc : ℕ) → IsStatementAt pc → (q : Point) × Contains b.shape.points q × (q.pc ≡ pc)
  point_of pc (a, i, (has, same, there, at, (q, (point, place))), kind) =
      let one : a ≡ b = one_body p coded a b has among same in
      (q, subst (λ (z : Body). Contains z.shape.points q) one point, place)

  -- a point is a statement
  of_point : (q : Point) → Contains b.shape.points q → IsStatementAt q.pc
  of_point q has =
      let each = (coded_body p coded b among).is.shape.2.depths.2.each q has in
      (b, each.0, (among, refl, each.1.0, sym each.2.pc, (q, (has, refl))), tt)

  listed : (pc : ℕ) → IsStatementAt pc ↔ HasPcIn lines pc
  listed pc = (
    λ h.
        let q = point_of pc h in
        let e = to_entry code (are code of) q.0 q.1 in
        (e.0, entry_of (are code of).line q.0, e.1, q.2),
    λ (k, x, at, e).
        let q = of_entry code (are code of) k x at in
        subst IsStatementAt (ap (λ (y : ℕ × Option ℕ). y.0) q.2 ∙ e) (of_point q.0 (there_at b.shape.points k q.0 q.1)),
  )

  lined : (pc : ℕ) (o : Option ℕ) → IsStatementAt pc → HasLineIn lines pc o ↔ IsLineOf p (statement_at b.method pc) o
  lined pc o h = (
    λ (k, x, at, e, line).
        let is = are code of in
        let q = of_entry code is k x at in
        let place : q.0.pc ≡ pc = ap (λ (y : ℕ × Option ℕ). y.0) q.2 ∙ e in
        let same : is.line pc ≡ o = ap is.line (sym place) ∙ ap (λ (y : ℕ × Option ℕ). y.1) q.2 ∙ line in
        (code, of, line_meant code pc o (subst (λ (z : Option ℕ). IsLineAt (lines_of code) pc z) same (is.is pc))),
    λ (c, has, line).
        let is = are c has in
        let q = point_of pc h in
        let e = to_entry c is q.0 q.1 in
        let same : is.line pc ≡ o = one_line_below (lines_of c) (pc + 1) (is.line pc) o (is.is pc) (line_found c pc o line) in
        (e.0, entry_of is.line q.0, e.1, q.2, ap is.line q.2 ∙ same),
  )

  pub body_described : AreMethodLines p b.method lines
  body_described = record { statements = listed; lines = lined }

-- a method without a body has no statements
pub none_described : (p : Program) (m : MethodId) (lines : List (ℕ × Option ℕ)) → lines ≡ [] → ((b : Body) → Contains p.bodies b → b.method ≡ m → ⊥) → AreMethodLines p m lines
none_described p m lines e none = record {
  statements = λ pc. (λ (b, i, at, kind). absurd (none b at.0 at.1), λ (k, x, at, is). absurd (omega (arith, slice_get_within [] k x (subst (λ (es : List (ℕ × Option ℕ)). slice_get es k ≡ Some x) e at))));
  lines = λ pc o (b, i, at, kind). absurd (none b at.0 at.1);
}
