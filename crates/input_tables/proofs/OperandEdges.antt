-- The edges to operands that are gathered are those of the program.
use Rattle.std.proofs.Common.{◌≡◌, ◌⊎◌, ◌↔◌, ◌-◌, ℕ, List, [], Contains, All, Some, inl, inr, refl, sym, ap, subst, ◌∙◌, arith}
use Rattle.std.specs.Prelude.{slice_get}
use Rattle.std.proofs.lemmas.Option.{same_Some}
use Rattle.std.proofs.lemmas.List.Elements.{All-contains}
use Rattle.slicer_ids.specs.declared.ids.MethodId.{MethodId}
use Rattle.slicer_ids.specs.declared.ids.NodeId.{NodeId}
use Rattle.class_form.proofs.Indices.{index_in, there_at}
use Rattle.class_form.specs.ClassRules.{IsClassFile, IsMethodMember}
use Rattle.class_form.specs.Classes.{Declared, HasCode, IsClass}
use Rattle.class_form.specs.Opcodes.{IsCall, IsThrow}
use Rattle.class_form.specs.Reaching.{HoldsAt}
use Rattle.class_form.specs.Shapes.{Catches}
use Rattle.class_form.specs.declared.body.Body.{Body}
use Rattle.class_form.specs.declared.body.Def.{Def}
use Rattle.class_form.specs.declared.body.Def.TheVariants.{Formal as Argument', Value, Caught}
use Rattle.class_form.specs.declared.body.Point.{Point}
use Rattle.class_form.specs.declared.class_file.ClassFile.{ClassFile}
use Rattle.class_form.specs.declared.class_file.CodeBody.{CodeBody}
use Rattle.class_form.specs.declared.class_file.Handler.{Handler}
use Rattle.class_form.specs.declared.class_file.Member.{Member}
use Rattle.dep_form.specs.declared.node.Edge.{Edge}
use Rattle.dep_form.specs.declared.node.Node.{Node}
use Rattle.dep_form.specs.declared.node.Node.TheVariants.{Own, Exception}
use Rattle.program_form.specs.Nodes.{at}
use Rattle.program_form.specs.Programs.{Program, CodeOf}
use Rattle.program_form.specs.Statements.{IsCovered}
use Rattle.program_code.specs.Codes.{IsProgramOfCode}
use Rattle.program_code.proofs.OneInstruction.{one_body}
use Rattle.program_code.proofs.OneProgram.{one_code}
use Rattle.fact_form.specs.EdgeNumbers.{IsDefinitionNumber, IsTakerNumber, of_formal, of_value, of_call, of_throw, of_exception, at_own, at_argument}
use Rattle.worklists.specs.Growth.{FromOne}
use Rattle.input_tables.specs.Edges.{AreOperandEdgesOf, IsDefNode, IsOperandEdge, IsPointEdge, IsTakerNode, operand_label}
use Rattle.input_tables.specs.Uses.{IsNodeIn}
use Rattle.input_tables.proofs.EdgeNumbers.{edge_at, node_in}
use Rattle.input_tables.proofs.PointKinds.{code, code_here, from_kind, instr_at, kind_here, to_kind, value_kind}

-- a method has one code, where class files keep the rules
pub one_code_of : (p : Program) → All IsClassFile p.classes → (m : MethodId) (c d : CodeBody) → CodeOf p m c → CodeOf p m d → c ≡ d
one_code_of p files m c d (a, x, n, t, (here, (k, class, (there, named, described))), has) (b, y, o, u, (here', (l, class', (there', named', described'))), has') =
    let declared : a ≡ b = same_Some a b (sym here ∙ here') in
    let file : k ≡ l = same_Some k l (sym (subst (λ (z : Declared). IsClass p.classes z.class k) declared class) ∙ class') in
    let slot : slice_get l.methods b.index ≡ Some x = subst (λ (z : Declared). slice_get l.methods z.index ≡ Some x) declared (subst (λ (z : ClassFile). slice_get z.methods a.index ≡ Some x) file there) in
    let member : x ≡ y = same_Some x y (sym slot ∙ there') in
    let sound = All-contains IsClassFile p.classes l files (there_at p.classes b.class l class') in
    let rules = All-contains (IsMethodMember l.pool l.flags) l.methods y sound.methods (there_at l.methods b.index y there') in
    one_code y c d rules.one_code (subst (λ (z : Member). HasCode z c) member has) has'

module _ (p : Program) (coded : IsProgramOfCode p) (files : All IsClassFile p.classes) (m : MethodId) (b : Body) (among : Contains p.bodies b) (of : b.method ≡ m) where
  abbrev points : List Point
  points = b.shape.points

  -- ---- handlers
  to_covered : (t : Point) (h : ℕ) → Contains points t → Contains t.handlers h → (e : Handler) × IsCovered p (at m t.pc) e × (e.handler ≡ h)
  to_covered t h has c =
      let i = instr_at p coded m b among of t has in
      let (e, inside, low, high, handler) = All-contains (Catches (code p coded m b among of) i.0.pc) t.handlers h i.2.handlers.each c in
      (e, ((code p coded m b among of), (code_here p coded m b among of), inside, omega (arith, low, i.2.pc), omega (arith, high, i.2.pc)), handler)

  from_covered : (t : Point) (h : ℕ) (e : Handler) → Contains points t → IsCovered p (at m t.pc) e → e.handler ≡ h → Contains t.handlers h
  from_covered t h e has (c, is, inside, low, high) handler =
      let i = instr_at p coded m b among of t has in
      let same : c ≡ (code p coded m b among of) = one_code_of p files m c (code p coded m b among of) is (code_here p coded m b among of) in
      i.2.handlers.whole h (e, subst (λ (z : CodeBody). Contains z.handlers e) same inside, omega (arith, low, i.2.pc), omega (arith, high, i.2.pc), handler)

  -- ---- the nodes of definitions
  to_thrown : (h q : ℕ) (k : Node) (t : Point) → slice_get points q ≡ Some t → Contains t.handlers h → ((IsThrow t.op × (k ≡ Own t.pc)) ⊎ (IsCall t.op × (k ≡ Exception t.pc))) → IsDefinitionNumber p m (Caught h) k
  to_thrown h q k t here c (inl (throw, is)) =
      let has = there_at points q t here in
      let w = to_covered t h has c in
      subst (IsDefinitionNumber p m (Caught h)) (sym is) (of_throw {e = w.0} (to_kind p coded m b among of IsThrow t has throw) w.1 w.2)
  to_thrown h q k t here c (inr (call, is)) =
      let has = there_at points q t here in
      let w = to_covered t h has c in
      subst (IsDefinitionNumber p m (Caught h)) (sym is) (of_exception {e = w.0} (to_kind p coded m b among of IsCall t has call) w.1 w.2)

  pub to_def : (d : Def) (k : Node) → IsDefNode points d k → IsDefinitionNumber p m d k
  to_def (Argument' i) k e = subst (IsDefinitionNumber p m (Argument' i)) (sym e) of_formal
  to_def (Value pc) k (op, has, inl (never, is)) = subst (IsDefinitionNumber p m (Value pc)) (sym is) (of_value (value_kind p coded m b among of (λ o. IsCall o → ⊥) pc op has never))
  to_def (Value pc) k (op, has, inr (call, is)) = subst (IsDefinitionNumber p m (Value pc)) (sym is) (of_call (value_kind p coded m b among of IsCall pc op has call))
  to_def (Caught h) k (q, (t, here, c), (u, there, raised)) =
      let same : u ≡ t = same_Some u t (sym there ∙ here) in
      to_thrown h q k t here c (subst (λ (z : Point). (IsThrow z.op × (k ≡ Own z.pc)) ⊎ (IsCall z.op × (k ≡ Exception z.pc))) same raised)

  caught_at : (h pc : ℕ) (e : Handler) (k : Node) (t : Point) → Contains points t → t.pc ≡ pc → IsCovered p (at m pc) e → e.handler ≡ h → ((IsThrow t.op × (k ≡ Own t.pc)) ⊎ (IsCall t.op × (k ≡ Exception t.pc))) → IsDefNode points (Caught h) k
  caught_at h pc e k t has place covered handler raised =
      let j = index_in points t has in
      let c = from_covered t h e has (subst (λ (n : ℕ). IsCovered p (at m n) e) (sym place) covered) handler in
      (j.0, (t, j.1, c), (t, j.1, raised))

  pub from_def : (d : Def) (k : Node) → IsDefinitionNumber p m d k → IsDefNode points d k
  from_def (Argument' i) k of_formal = refl
  from_def (Value pc) k (of_value o) = let w = from_kind p coded m b among of (λ op. IsCall op → ⊥) pc o in (w.0.op, (w.0, w.1, w.2, refl), inl (w.3, refl))
  from_def (Value pc) k (of_call o) = let w = from_kind p coded m b among of IsCall pc o in (w.0.op, (w.0, w.1, w.2, refl), inr (w.3, refl))
  from_def (Caught h) k (of_throw {pc = pc} {e = e} o covered handler) =
      let w = from_kind p coded m b among of IsThrow pc o in
      caught_at h pc e (Own pc) w.0 w.1 w.2 covered handler (inl (w.3, ap (λ (n : ℕ). Own n) (sym w.2)))
  from_def (Caught h) k (of_exception {pc = pc} {e = e} o covered handler) =
      let w = from_kind p coded m b among of IsCall pc o in
      caught_at h pc e (Exception pc) w.0 w.1 w.2 covered handler (inr (w.3, ap (λ (n : ℕ). Exception n) (sym w.2)))

  -- ---- what takes an operand
  to_taker : (t : Point) (operand : ℕ) (j : Node) → Contains points t → IsTakerNode t.op t.pc operand j → IsTakerNumber p m t.pc operand j
  to_taker t operand j has (inl (never, is)) = subst (IsTakerNumber p m t.pc operand) (sym is) (at_own (to_kind p coded m b among of (λ o. IsCall o → ⊥) t has never))
  to_taker t operand j has (inr (call, is)) = subst (IsTakerNumber p m t.pc operand) (sym is) (at_argument (to_kind p coded m b among of IsCall t has call))

  from_taker : (t : Point) (operand : ℕ) (j : Node) → Contains points t → IsTakerNumber p m t.pc operand j → IsTakerNode t.op t.pc operand j
  from_taker t operand j has (at_own o) = inl (kind_here p coded m b among of (λ op. IsCall op → ⊥) t has o, refl)
  from_taker t operand j has (at_argument o) = inr (kind_here p coded m b among of IsCall t has o, refl)

  -- ---- edges
  module _ (first : ℕ) (row : List Node) where
    to_edge : (x : Edge) → FromOne (IsPointEdge points first row b.shape) points x → IsOperandEdge p m first row x
    to_edge x (t, has, (u, use', (j, taker, (d, holds, (k, node, (a, z, start, end, e)))))) =
        let i = instr_at p coded m b among of t has in (
          k,
          j,
          subst (λ (n : NodeId). IsNodeIn first row n k) (sym (ap (λ (y : Edge). y.from) e)) (node_in first a row k start),
          subst (λ (n : NodeId). IsNodeIn first row n j) (sym (ap (λ (y : Edge). y.to) e)) (node_in first z row j end),
          (t.pc, u, d, (b, i.0, t, i.1, (has, refl), use', holds), to_def d k node, to_taker t u.operand j has taker, ap (λ (y : Edge). y.label) e),
        )

    from_edge : (x : Edge) → IsOperandEdge p m first row x → FromOne (IsPointEdge points first row b.shape) points x
    from_edge x (k, j, (low, start), (high, end), (pc, u, d, (a, i, t, is, (c, place), use', holds), def, taker, label)) =
        let same : a ≡ b = one_body p coded a b is.0 among (is.1 ∙ sym of) in
        let has : Contains points t = subst (λ (y : Body). Contains y.shape.points t) same c in
        let held : HoldsAt b.shape t.pc u.slot d = subst (λ (n : ℕ). HoldsAt b.shape n u.slot d) (sym place) (subst (λ (y : Body). HoldsAt y.shape pc u.slot d) same holds) in
        let takes : IsTakerNumber p m t.pc u.operand j = subst (λ (n : ℕ). IsTakerNumber p m n u.operand j) (sym place) taker in
        (t, has, (u, use', (j, from_taker t u.operand j has takes, (d, held, (k, from_def d k def, (x.from.0 - first, x.to.0 - first, start, end, edge_at first x (operand_label u.base) low high label))))))

    pub operand_edge : (x : Edge) → FromOne (IsPointEdge points first row b.shape) points x ↔ IsOperandEdge p m first row x
    operand_edge x = (to_edge x, from_edge x)

-- ---- of one body of a list, or none
pub no_edges : (bodies : List Body) (m : MethodId) (first : ℕ) (row : List Node) (edges : List Edge) → edges ≡ [] → ((b : Body) → Contains bodies b → b.method ≡ m → ⊥) → AreOperandEdgesOf bodies m first row edges
no_edges bodies m first row edges none never = λ p same coded files e. (
  λ c. absurd (omega (arith, (subst (λ (xs : List Edge). Contains xs e) none c).1)),
  λ (k, j, start, end, (pc, u, d, (a, i, t, is, point, use', holds), def, taker, label)). absurd (never a (subst (λ (bs : List Body). Contains bs a) same is.0) is.1),
)

pub body_edges : (bodies : List Body) (m : MethodId) (first : ℕ) (row : List Node) (number : ℕ) (body : Body) → slice_get bodies number ≡ Some body → ((b : Body) × (slice_get bodies number ≡ Some b) × (b.method ≡ m)) → (ps : List Point) → ps ≡ body.shape.points → (edges : List Edge)
    → ((x : Edge) → Contains edges x ↔ FromOne (IsPointEdge ps first row body.shape) ps x) → AreOperandEdgesOf bodies m first row edges
body_edges bodies m first row number body here (b, there, of) ps e edges members = λ p same coded files x.
    let one' : b ≡ body = same_Some b body (sym there ∙ here) in
    let method : body.method ≡ m = ap (λ (y : Body). y.method) (sym one') ∙ of in
    let among : Contains p.bodies body = subst (λ (bs : List Body). Contains bs body) (sym same) (there_at bodies number body here) in
    let is = subst (λ (ts : List Point). Contains edges x ↔ FromOne (IsPointEdge ts first row body.shape) ts x) e (members x) in
    let edge = operand_edge p coded files m body among method first row x in
    (λ c. edge.0 (is.0 c), λ h. is.1 (edge.1 h))
