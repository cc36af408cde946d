-- Two numbers stand for one node.
use Rattle.std.proofs.Common.{◌≡◌, sym, ap, subst, ◌∙◌, arith}
use Rattle.slicer_ids.specs.declared.ids.NodeId.{NodeId}
use Rattle.slicer_ids.specs.declared.ids.MethodId.{MethodId}
use Rattle.slicer_ids.specs.declared.ids.Statement.{Statement}
use Rattle.dep_form.specs.declared.node.Node.{Node as NodeNumber}
use Rattle.dep_form.specs.declared.facts.Facts.{Facts}
use Rattle.dep_form.specs.Nodes.{pc_of}
use Rattle.dep_form.specs.Inputs.{IsNode as IsNodeNumber, BelongsTo}
use Rattle.dep_form.proofs.OneMethod.{one_node}
use Rattle.program_form.specs.Programs.{Program}
use Rattle.program_form.specs.Nodes.{Kind, Node, node, IsNode}
use Rattle.program_form.specs.Graphs.{Numbering, KindNumber, NumberOf, AreFactsOf}
use Rattle.text_laws.proofs.TwoFacts.{AreOfOne}
use Rattle.text_laws.proofs.Numbers.{one_kind, same_pc}

-- the node has the one number in the one facts, and the other in the others
pub record Same (ns ms : Numbering) (f g : Facts) (a : Node) (x y : NodeId) : Type 0 where
  pub here : NumberOf ns f a x
  pub there : NumberOf ms g a y

-- a number is of one node
pub one_of_number : (ns : Numbering) (f : Facts) (a b : Node) (x : NodeId) → NumberOf ns f a x → NumberOf ns f b x → a ≡ b
one_of_number ns f a b x (k, at, kind) (j, there, other) =
    let one = one_node f x a.method b.method k j at there in
    let kinds : a.kind ≡ b.kind = one_kind ns kind (subst (λ z. KindNumber ns b.kind z) (sym one.1) other) in
    ap (λ (m : MethodId). node m a.kind) one.0 ∙ ap (λ (z : Kind). node b.method z) kinds

-- a number of the facts is of a node
pub has_node : (p : Program) (ns : Numbering) (f : Facts) → AreFactsOf p ns f → (x : NodeId) (m : MethodId) (k : NodeNumber) → IsNodeNumber f.inputs x m k →
    (a : Node) × IsNode p a × NumberOf ns f a x
has_node p ns f tie x m k is = let n = tie.named x m k is in (node m n.0, n.2, (k, is, n.1))

module _ (p : Program) (ns ms : Numbering) (f g : Facts) (o : AreOfOne p ns ms f g) where
  -- each node has both numbers
  pub other_number : (a : Node) (x : NodeId) → IsNode p a → NumberOf ns f a x → (y : NodeId) × Same ns ms f g a x y
  other_number a x is number = let n = o.second.numbered a is in (n.0, record { here = number; there = n.1 })

  -- both belong to one statement
  pub belongs : (a : Node) (x y : NodeId) (s : Statement) → Same ns ms f g a x y → BelongsTo f.inputs x s → BelongsTo g.inputs y s
  belongs a x y s same (k, is, pc, low) =
      let h = same.here in
      let t = same.there in
      let one = one_node f x a.method s.method h.0 k h.1 is in
      (t.0, subst (λ (m : MethodId). IsNodeNumber g.inputs y m t.0) one.0 t.1, sym (same_pc ns ms h.2 t.2) ∙ ap pc_of one.1 ∙ pc, omega (arith, low, o.first.methods, o.second.methods))

  -- what belongs to a statement is a node of both
  pub of_statement : (x : NodeId) (s : Statement) → BelongsTo f.inputs x s → (a : Node) × (y : NodeId) × Same ns ms f g a x y
  of_statement x s (k, is, pc, low) =
      let a = has_node p ns f o.first x s.method k is in
      let y = other_number a.0 x a.1 a.2 in
      (a.0, y.0, y.1)
