-- The edges to exits that are gathered are those of the program.
use Rattle.std.proofs.Common.{◌≡◌, ◌↔◌, ◌-◌, ℕ, List, [], Contains, Option, Some, inl, inr, sym, ap, subst, ◌∙◌, arith}
use Rattle.std.specs.Prelude.{slice_get}
use Rattle.std.proofs.lemmas.Option.{same_Some}
use Rattle.slicer_ids.specs.declared.ids.MethodId.{MethodId}
use Rattle.slicer_ids.specs.declared.ids.NodeId.{NodeId}
use Rattle.class_form.proofs.Indices.{there_at}
use Rattle.class_form.specs.Opcodes.{IsCall, IsThrow, IsValueReturn}
use Rattle.class_form.specs.declared.body.Body.{Body}
use Rattle.class_form.specs.declared.body.Point.{Point}
use Rattle.class_form.specs.declared.class_file.Handler.{Handler}
use Rattle.dep_form.specs.declared.node.Edge.{Edge}
use Rattle.dep_form.specs.declared.node.Label.TheVariants.{Thin}
use Rattle.dep_form.specs.declared.node.Node.{Node}
use Rattle.dep_form.specs.declared.node.Node.TheVariants.{Own, Exception, Return, Thrown}
use Rattle.program_form.specs.Nodes.{at}
use Rattle.program_form.specs.Programs.{Program}
use Rattle.program_form.specs.Statements.{MayLeave}
use Rattle.program_code.specs.Codes.{IsProgramOfCode}
use Rattle.worklists.specs.Growth.{FromOne}
use Rattle.input_tables.specs.Edges.{IsEdgeBy, IsRaisedNode}
use Rattle.input_tables.specs.Exits.{AreExitEdgesOf, AreHandlersOf, IsAllCaught, IsExitEdge, IsExitFlow, IsLeavingNode, IsPointExit, IsReturnNode, returns, throws, passes_on}
use Rattle.input_tables.specs.Uses.{IsNodeIn}
use Rattle.input_tables.proofs.EdgeNumbers.{edge_at, node_in}
use Rattle.input_tables.proofs.PointKinds.{code, code_here, from_kind, to_kind}

-- ---- nodes that were found
pub return_is : (op pc : ℕ) → IsValueReturn op → (k : Node) → (Some (Own pc) ≡ Some k) ↔ IsReturnNode op pc k
return_is op pc is k = (λ e. (is, sym (same_Some (Own pc) k e)), λ (h, e). ap (λ (z : Node). Some z) (sym e))

pub leaving_is : (handlers : List Handler) (op pc : ℕ) (found : Option Node) → (IsAllCaught handlers pc → ⊥) → ((k : Node) → (found ≡ Some k) ↔ IsRaisedNode op pc k) → (k : Node) → (found ≡ Some k) ↔ IsLeavingNode handlers op pc k
leaving_is handlers op pc found never is k = (λ e. (never, (is k).0 e), λ (n, h). (is k).1 h)

module _ (p : Program) (coded : IsProgramOfCode p) (m : MethodId) (handlers : List Handler) (are : AreHandlersOf p m handlers) (b : Body) (among : Contains p.bodies b) (of : b.method ≡ m) where
  abbrev points : List Point
  points = b.shape.points

  -- ---- what may leave
  to_leave : (pc : ℕ) → (IsAllCaught handlers pc → ⊥) → MayLeave p (at m pc)
  to_leave pc never e (c, is, inside, low, high) all = never (e, subst (λ (hs : List Handler). Contains hs e) (sym (are c is)) inside, (all, (low, high)))

  from_leave : (pc : ℕ) → MayLeave p (at m pc) → IsAllCaught handlers pc → ⊥
  from_leave pc may (e, inside, (all, (low, high))) =
      let is = code_here p coded m b among of in
      may e (code p coded m b among of, is, subst (λ (hs : List Handler). Contains hs e) (are (code p coded m b among of) is) inside, low, high) all

  raised_flow : (t : Point) (k : Node) → Contains points t → (IsAllCaught handlers t.pc → ⊥) → IsRaisedNode t.op t.pc k → IsExitFlow p m k Thrown
  raised_flow t k has never (inl (throw, is)) = subst (λ (z : Node). IsExitFlow p m z Thrown) (sym is) (throws (to_kind p coded m b among of IsThrow t has throw) (to_leave t.pc never))
  raised_flow t k has never (inr (call, is)) = subst (λ (z : Node). IsExitFlow p m z Thrown) (sym is) (passes_on (to_kind p coded m b among of IsCall t has call) (to_leave t.pc never))

  -- ---- edges
  module _ (first : ℕ) (row : List Node) where
    to_exit : (x : Edge) (k j : Node) → IsEdgeBy first row k j Thin x → IsExitFlow p m k j → IsExitEdge p m first row x
    to_exit x k j (a, z, start, end, e) flow = (
      k,
      j,
      subst (λ (n : NodeId). IsNodeIn first row n k) (sym (ap (λ (y : Edge). y.from) e)) (node_in first a row k start),
      subst (λ (n : NodeId). IsNodeIn first row n j) (sym (ap (λ (y : Edge). y.to) e)) (node_in first z row j end),
      flow,
      ap (λ (y : Edge). y.label) e,
    )

    to_edge : (x : Edge) → FromOne (IsPointExit handlers first row) points x → IsExitEdge p m first row x
    to_edge x (t, has, inl (k, (is, e), by)) =
        to_exit x k Return by (subst (λ (z : Node). IsExitFlow p m z Return) (sym e) (returns (to_kind p coded m b among of IsValueReturn t has is)))
    to_edge x (t, has, inr (k, (never, raised), by)) = to_exit x k Thrown by (raised_flow t k has never raised)

    by_row : (x : Edge) (k j : Node) → IsNodeIn first row x.from k → IsNodeIn first row x.to j → x.label ≡ Thin → IsEdgeBy first row k j Thin x
    by_row x k j (low, start) (high, end) label = (x.from.0 - first, x.to.0 - first, start, end, edge_at first x Thin low high label)

    own_is : (t : Point) (pc : ℕ) → t.pc ≡ pc → Own pc ≡ Own t.pc
    own_is t pc e = ap (λ (n : ℕ). Own n) (sym e)

    exception_is : (t : Point) (pc : ℕ) → t.pc ≡ pc → Exception pc ≡ Exception t.pc
    exception_is t pc e = ap (λ (n : ℕ). Exception n) (sym e)

    leaves_at : (t : Point) (pc : ℕ) → t.pc ≡ pc → MayLeave p (at m pc) → IsAllCaught handlers t.pc → ⊥
    leaves_at t pc e may = from_leave t.pc (subst (λ (n : ℕ). MayLeave p (at m n)) (sym e) may)

    from_exit : (x : Edge) (k j : Node) → IsExitFlow p m k j → IsEdgeBy first row k j Thin x → FromOne (IsPointExit handlers first row) points x
    from_exit x k j (returns {pc = pc} o) by =
        let w = from_kind p coded m b among of IsValueReturn pc o in
        (w.0, w.1, inl (Own pc, (w.3, own_is w.0 pc w.2), by))
    from_exit x k j (throws {pc = pc} o may) by =
        let w = from_kind p coded m b among of IsThrow pc o in
        (w.0, w.1, inr (Own pc, (leaves_at w.0 pc w.2 may, inl (w.3, own_is w.0 pc w.2)), by))
    from_exit x k j (passes_on {pc = pc} o may) by =
        let w = from_kind p coded m b among of IsCall pc o in
        (w.0, w.1, inr (Exception pc, (leaves_at w.0 pc w.2 may, inr (w.3, exception_is w.0 pc w.2)), by))

    pub exit_edge : (x : Edge) → FromOne (IsPointExit handlers first row) points x ↔ IsExitEdge p m first row x
    exit_edge x = (to_edge x, λ (k, j, start, end, flow, label). from_exit x k j flow (by_row x k j start end label))

-- ---- of one body of a list, or none
flow_at : (p : Program) (m : MethodId) (k j : Node) → IsExitFlow p m k j → (b : Body) × Contains p.bodies b × (b.method ≡ m)
flow_at p m k j (returns o) = (o.0, o.2.0, o.2.1)
flow_at p m k j (throws o may) = (o.0, o.2.0, o.2.1)
flow_at p m k j (passes_on o may) = (o.0, o.2.0, o.2.1)

pub no_exits : (bodies : List Body) (m : MethodId) (handlers : List Handler) (first : ℕ) (row : List Node) (edges : List Edge) → edges ≡ [] → ((b : Body) → Contains bodies b → b.method ≡ m → ⊥) → AreExitEdgesOf bodies m handlers first row edges
no_exits bodies m handlers first row edges none never = λ p same coded are e. (
  λ c. absurd (omega (arith, (subst (λ (xs : List Edge). Contains xs e) none c).1)),
  λ (k, j, start, end, flow, label). let w = flow_at p m k j flow in absurd (never w.0 (subst (λ (bs : List Body). Contains bs w.0) same w.1) w.2),
)

pub body_exits : (bodies : List Body) (m : MethodId) (handlers : List Handler) (first : ℕ) (row : List Node) (number : ℕ) (body : Body) → slice_get bodies number ≡ Some body → ((b : Body) × (slice_get bodies number ≡ Some b) × (b.method ≡ m)) → (ps : List Point) → ps ≡ body.shape.points → (edges : List Edge)
    → ((x : Edge) → Contains edges x ↔ FromOne (IsPointExit handlers first row) ps x) → AreExitEdgesOf bodies m handlers first row edges
body_exits bodies m handlers first row number body here (b, there, of) ps e edges members = λ p same coded are x.
    let one' : b ≡ body = same_Some b body (sym there ∙ here) in
    let method : body.method ≡ m = ap (λ (y : Body). y.method) (sym one') ∙ of in
    let among : Contains p.bodies body = subst (λ (bs : List Body). Contains bs body) (sym same) (there_at bodies number body here) in
    let is = subst (λ (ts : List Point). Contains edges x ↔ FromOne (IsPointExit handlers first row) ts x) e (members x) in
    let edge = exit_edge p coded m handlers are body among method first row x in
    (λ c. edge.0 (is.0 c), λ h. is.1 (edge.1 h))
