-- What produces the object or array of an access, by the edges to it.
use Rattle.std.proofs.Common.{◌≡◌, ◌↔◌, ◌+◌, ◌-◌, ℕ, List, All, Contains, Some, inl, inr, map, refl, sym, ap, subst, ◌∙◌, arith}
use Rattle.std.specs.Prelude.{AllPairs, slice_get}
use Rattle.slicer_ids.specs.Order.{SiteBefore}
use Rattle.slicer_ids.specs.Sets.{IsOrderedListOf}
use Rattle.slicer_ids.specs.declared.ids.NodeId.{NodeId}
use Rattle.slicer_ids.specs.declared.ids.Statement.{Statement}
use Rattle.class_form.proofs.Indices.{index_in, there_at}
use Rattle.class_form.specs.ClassRules.{IsClassFile}
use Rattle.class_form.specs.Opcodes.{IsCall}
use Rattle.class_form.specs.declared.body.Body.{Body}
use Rattle.class_form.specs.declared.body.Def.{Def}
use Rattle.class_form.specs.declared.body.Point.{Point}
use Rattle.dep_form.specs.WithinFacts.{NodeBefore}
use Rattle.dep_form.specs.declared.access.Access.{Access}
use Rattle.dep_form.specs.declared.node.Edge.{Edge}
use Rattle.dep_form.specs.declared.node.Node.{Node}
use Rattle.dep_form.specs.declared.node.Node.TheVariants.{Own}
use Rattle.program_code.specs.Codes.{IsProgramOfCode}
use Rattle.program_form.specs.Programs.{Program}
use Rattle.program_form.specs.Statements.{OperandIs}
use Rattle.program_form.specs.Values.{IsAccessOpcode}
use Rattle.fact_form.proofs.ItemLists.{all_of, listed_as, map_at, mapped}
use Rattle.fact_form.specs.EdgeNumbers.{IsDefinitionNumber}
use Rattle.fact_form.specs.ValueNumbers.{OperandSite}
use Rattle.worklists.specs.Growth.{FromOne}
use Rattle.input_tables.specs.Edges.{IsDefNode, edge_of, operand_label}
use Rattle.input_tables.specs.Uses.{IsNodeIn}
use Rattle.input_tables.proofs.EdgeNumbers.{node_in}
use Rattle.input_tables.proofs.OperandEdges.{from_def, to_def}
use Rattle.value_tables.specs.Values.{OperandHas}
use Rattle.value_tables.proofs.OfPoints.{instr, of_operand, operand_is, to_operand}
use Rattle.access_tables.specs.Objects.{IsObjectEdge, IsObjectStart, start_of}
use Rattle.access_tables.specs.Scenes.{IsScene}
use Rattle.access_tables.specs.Tables.{HasAccess, IsAccessAt}
use Rattle.access_tables.specs.declared.scene.Scene.{Scene}

-- an access is no call
pub not_call : (op : ℕ) → IsAccessOpcode op → IsCall op → ⊥
not_call op (inl h) call = absurd (omega (arith, h, call.0, call.1))
not_call op (inr (inl h)) call = absurd (omega (arith, h, call.0, call.1))
not_call op (inr (inr (inl h))) call = absurd (omega (arith, h.0, h.1, call.0, call.1))
not_call op (inr (inr (inr (inl h)))) call = absurd (omega (arith, h.0, h.1, call.0, call.1))
not_call op (inr (inr (inr (inr h)))) call = absurd (omega (arith, h, call.0, call.1))

-- where the edges start that were gathered
pub starts_are : (x : Scene) (q : Point) (edges : List Edge) (starts : List NodeId) → starts ≡ map start_of edges → ((e : Edge) → Contains edges e ↔ FromOne (IsObjectEdge x q) q.uses e) → (n : NodeId) → Contains starts n ↔ IsObjectStart x q n
starts_are x q edges starts is those n = (to, from)
  where
    to : Contains starts n → IsObjectStart x q n
    to c =
        let i = index_in starts n c in
        let w = mapped start_of edges i.0 n (subst (λ (ns : List NodeId). slice_get ns i.0 ≡ Some n) is i.1) in
        (w.0, (those w.0).0 (there_at edges i.0 w.0 w.1), sym w.2)

    from : IsObjectStart x q n → Contains starts n
    from (e, gathered, start) =
        let i = index_in edges e ((those e).1 gathered) in
        let at : slice_get (map start_of edges) i.0 ≡ Some (start_of e) = map_at start_of edges i.0 e i.1 in
        there_at starts i.0 n (subst (λ (m : NodeId). slice_get starts i.0 ≡ Some m) (sym start) (subst (λ (ns : List NodeId). slice_get ns i.0 ≡ Some (start_of e)) (sym is) at))

pub listed_in_order : (all sorted : List NodeId) (P : NodeId → Type 0) → ((n : NodeId) → Contains all n ↔ P n) → AllPairs NodeBefore sorted → ((n : NodeId) → Contains sorted n ↔ Contains all n) → IsOrderedListOf NodeBefore sorted P
listed_in_order all sorted P is order same = record {
  each = all_of P sorted (λ k n at. (is n).0 ((same n).0 (there_at sorted k n at)));
  order = order;
  whole = λ n p. (same n).1 ((is n).1 p);
}

module _ (p : Program) (coded : IsProgramOfCode p) (files : All IsClassFile p.classes) (x : Scene) (is : IsScene x) (among : Contains p.bodies x.method.body.now) (q : Point) (has : Contains x.method.body.now.shape.points q) where
  abbrev b : Body
  b = x.method.body.now

  abbrev t : Statement
  t = record { method = b.method; pc = q.pc }

  abbrev IsProducer : NodeId → Type 0
  IsProducer n = (d : Def) × (k : Node) × OperandIs p t 0 d × IsDefinitionNumber p b.method d k × IsNodeIn x.ground.first x.ground.row.now n k

  to_object : (n : NodeId) → IsObjectStart x q n → IsProducer n
  to_object n (e, (u, use', (zero', (j, taker, (d, holds, (k, node, (a, z, start, end, edge)))))), from) =
      let i = instr p coded x.method is.method among q has in
      let def = to_def p coded files b.method b among refl d k (subst (λ (ts : List Point). IsDefNode ts d k) is.points node) in
      let there : IsNodeIn x.ground.first x.ground.row.now n k = subst (λ (y : NodeId). IsNodeIn x.ground.first x.ground.row.now y k) (sym (from ∙ ap (λ (y : Edge). y.from) edge)) (node_in x.ground.first a x.ground.row.now k start) in
      (d, k, (b, i.0, i.1, (q, (has, refl), u, use', zero', holds)), def, there)

  from_object : Contains x.ground.row.now (Own q.pc) → (IsCall q.op → ⊥) → (n : NodeId) → IsProducer n → IsObjectStart x q n
  from_object own never n (d, k, operand, number, (low, at)) =
      let u = operand_is p coded x.method is.method among q has 0 d operand in
      let j = index_in x.ground.row.now (Own q.pc) own in
      let node = subst (λ (ts : List Point). IsDefNode ts d k) (sym is.points) (from_def p coded files b.method b among refl d k number) in
      let start : ℕ = n.0 - x.ground.first in
      let place : n.0 ≡ x.ground.first + start = omega (arith, low) in (
        edge_of (x.ground.first + start) (x.ground.first + j.0) (operand_label u.0.base),
        (u.0, u.1, (u.2, (Own q.pc, inl (never, refl), (d, u.3, (k, node, (start, j.0, at, j.1, refl)))))),
        ap (λ (m : ℕ). record { 0 = m }) place,
      )

  -- the access of the statement
  pub access_is : Contains x.ground.row.now (Own q.pc) → IsAccessOpcode q.op → (a : Access) → IsAccessAt x q a → HasAccess p x.method.system.now x.ground.first x.ground.row.now t a
  access_is own access a h = (
    listed_as NodeBefore (IsObjectStart x q) IsProducer a.object to_object (from_object own (not_call q.op access)) h.objects,
    listed_as SiteBefore (OperandHas x.method q 0) (OperandSite p x.method.system.now t 0) a.sites (to_operand p coded x.method is.method among q has 0) (of_operand p coded x.method is.method among q has 0) h.sites,
  )
