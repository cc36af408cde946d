-- Facts of a program list its statements: what nodes belong to is one, each has its own node, and accesses are statements.
use Rattle.std.proofs.Common.{◌≡◌, ℕ, Some, refl, subst, arith}
use Rattle.std.proofs.lemmas.Option.{same_Some}
use Rattle.slicer_ids.specs.declared.ids.NodeId.{NodeId}
use Rattle.slicer_ids.specs.declared.ids.MethodId.{MethodId}
use Rattle.slicer_ids.specs.declared.ids.Statement.{Statement}
use Rattle.class_form.proofs.Indices.{there_at}
use Rattle.dep_form.specs.declared.node.Node.{Node as NodeNumber}
use Rattle.dep_form.specs.declared.node.Node.TheVariants as number
use Rattle.dep_form.specs.declared.access.Access.{Access}
use Rattle.dep_form.specs.declared.facts.Facts.{Facts}
use Rattle.dep_form.specs.Nodes.{pc_of}
use Rattle.dep_form.specs.Inputs.{IsNode as IsNodeNumber, BelongsTo}
use Rattle.dep_form.specs.LookUps.{IsStatement as IsListed, IsAccessAt}
use Rattle.program_form.specs.Programs.{Program, IsRoot}
use Rattle.program_form.specs.Effects.{IsStatement, StatementIs}
use Rattle.program_form.specs.Nodes.{Node, Own, node, at, IsNode, formal, heap_in, own, argument, result, exception, heap_arg, heap_result, returned, thrown, heap_out, root_argument, root_heap_arg, root_heap_result}
use Rattle.program_form.specs.Graphs.{Numbering, KindNumber, AreFactsOf}
use Rattle.program_form.specs.Graphs as graph

module _ (p : Program) (ns : Numbering) where
  -- a statement of a kind is one
  is_statement : (t : Statement) (Kind : ℕ → Type 0) → StatementIs p t Kind → IsStatement p t
  is_statement t Kind (reaches, (b, i, is, of)) = (reaches, (b, i, is, tt))

  moved : (m : MethodId) (a b : ℕ) → Some a ≡ Some b → IsStatement p (at m a) → IsStatement p (at m b)
  moved m a b e is = subst (λ pc. IsStatement p (at m pc)) (same_Some a b e) is

  -- a node with a pc, but for the root's, is of the statement there
  of_statement : (pc : ℕ) {a : Node} {k : NodeNumber} → IsNode p a → KindNumber ns a.kind k → pc_of k ≡ Some pc → (IsRoot p a.method → ⊥) → IsStatement p (at a.method pc)
  of_statement pc (own {m} {pc = q} is) graph.own e low = moved m q pc e is
  of_statement pc (argument {m} {pc = q} is h) graph.argument e low = moved m q pc e (is_statement (at m q) _ is)
  of_statement pc (result {m} {pc = q} t is type h) graph.result e low = moved m q pc e (is_statement (at m q) _ is)
  of_statement pc (exception {m} {pc = q} is h) graph.exception e low = moved m q pc e (is_statement (at m q) _ is)
  of_statement pc (root_argument r k g) graph.argument e low = absurd (low r)
  of_statement pc (formal r h) graph.formal e low = absurd (cc e)
  of_statement pc (heap_in r h) (graph.heap_in at) e low = absurd (cc e)
  of_statement pc (heap_arg c h) (graph.heap_arg at) e low = absurd (cc e)
  of_statement pc (heap_result c h) (graph.heap_result at) e low = absurd (cc e)
  of_statement pc (returned t r h u) graph.returned e low = absurd (cc e)
  of_statement pc (thrown r h) graph.thrown e low = absurd (cc e)
  of_statement pc (heap_out r h) (graph.heap_out at) e low = absurd (cc e)
  of_statement pc (root_heap_arg r k h) (graph.heap_arg at) e low = absurd (cc e)
  of_statement pc (root_heap_result r k h) (graph.heap_result at) e low = absurd (cc e)

  own_number : {pc : ℕ} {k : NodeNumber} → KindNumber ns (Own pc) k → k ≡ number.Own pc
  own_number graph.own = refl

  module _ (f : Facts) (tie : AreFactsOf p ns f) where
    pub listed : (n : NodeId) (s : Statement) → BelongsTo f.inputs n s → IsListed f s
    listed n s (k, is, pc, lt) =
        let (kind, number, there) = tie.named n s.method k is in
        (tie.statements s).0 (of_statement s.pc there number pc (λ r. omega (arith, r, lt, tie.methods)))

    pub has_node : (s : Statement) → IsListed f s → (n : NodeId) × IsNodeNumber f.inputs n s.method (number.Own s.pc)
    has_node s is =
        let (n, (k, there, kind)) = tie.numbered (node s.method (Own s.pc)) (own ((tie.statements s).1 is)) in
        (n, subst (λ x. IsNodeNumber f.inputs n s.method x) (own_number kind) there)

    pub access_listed : (s : Statement) (a : Access) → IsAccessAt f s a → IsListed f s
    access_listed s a (k, e) = (tie.statements s).0 (is_statement s _ ((tie.accesses s).0 (a, there_at f.accesses k (s, a) e)))
