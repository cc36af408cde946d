-- Each edge of the one facts has its counterpart in the others.
use Rattle.std.proofs.Common.{◌≡◌, refl, sym, subst, inr}
use Rattle.slicer_ids.specs.declared.ids.NodeId.{NodeId}
use Rattle.slicer_ids.specs.declared.ids.Statement.{Statement}
use Rattle.dep_form.specs.declared.node.Edge.{Edge}
use Rattle.dep_form.specs.declared.node.Label.{Label}
use Rattle.dep_form.specs.declared.node.Label.TheVariants.{Thin, Base as BaseLabel, Call, Return}
use Rattle.dep_form.specs.declared.facts.Facts.{Facts}
use Rattle.dep_form.specs.Inputs.{IsEdge}
use Rattle.dep_form.specs.Slices.{Expanded, FullEdges}
use Rattle.dep_form.specs.WithinFacts.{IsFit}
use Rattle.program_form.specs.Programs.{Program}
use Rattle.program_form.specs.Nodes.{Node, IsNode}
use Rattle.program_form.specs.Dependences.{Dependence, Into, BackTo, FullyDependsOn, operand, other}
use Rattle.program_form.specs.Dependences as dependence
use Rattle.program_form.specs.Graphs.{Numbering, NumberOf, LabelNumber, flow}
use Rattle.text_laws.proofs.TwoFacts.{AreOfOne}
use Rattle.text_laws.proofs.Numbers.{same_base, plain_label}
use Rattle.text_laws.proofs.SameNodes.{Same, has_node, other_number, belongs}
use Rattle.text_laws.proofs.SamePaths.{Next}

module _ (p : Program) (ns ms : Numbering) (f g : Facts) (o : AreOfOne p ns ms f g) where
  -- where an edge ends there is a node
  abbrev Ends : Edge → Type 0
  Ends e = (b : Node) × IsNode p b × NumberOf ns f b e.to

  end_by : (e : Edge) (l : Label) → IsEdge f.inputs e → e.label ≡ l → IsFit f.inputs f.accesses e l → Ends e
  end_by e Thin is at (m, k, j, from, to) = has_node p ns f o.first e.to m j to
  end_by e BaseLabel is at fit = has_node p ns f o.first e.to fit.0.0 fit.0.2 fit.0.4
  end_by e (Call c) is at (m, k, to, formal) = has_node p ns f o.first e.to m k to
  end_by e (Return c) is at fit =
      let (m, k, j, a, b) = o.keeps.one_caller c e e e.to e.to is is (inr (at, refl)) (inr (at, refl)) in
      has_node p ns f o.first e.to m j b

  end : (e : Edge) → IsEdge f.inputs e → Ends e
  end e is = end_by e e.label is refl (o.keeps.fit e is)

  -- thin slices, with expanded accesses
  pub thin_step : (X : Statement → Type 0) (e : Edge) (a : Node) (y : NodeId) → Expanded f.inputs X e → Same ns ms f g a e.from y → Next ns ms f g (Expanded g.inputs X) e y
  thin_step X e a y (is, bases) same =
      let b = end e is in
      let z = other_number p ns ms f g o b.0 e.to b.1 b.2 in
      let d = o.first.labels e is in
      let depends = (o.first.edges a b.0 d.0 e.from e.to e.label same.here b.2 d.1).1 is in
      let l = o.second.labelled a b.0 d.0 depends in
      record {
        how = d.0;
        label = l.0;
        end = b.0;
        to = z.0;
        same = z.1;
        old = d.1;
        new = l.1;
        is = (
          (o.second.edges a b.0 d.0 y z.0 l.0 same.there z.1.there l.1).0 depends,
          λ at. let s = bases (same_base ns ms d.1 l.1 at) in (s.0, s.1, belongs p ns ms f g o b.0 e.to z.0 s.0 z.1 s.2),
        );
      }

  -- full slices
  labelled_too : (a b : Node) (d : Dependence) → FullyDependsOn p a b d → (l : Label) × LabelNumber ms d l
  labelled_too a b _ (operand x y h) = (Thin, flow)
  labelled_too a b _ (other x y h) = (Thin, flow)
  labelled_too a b _ (dependence.into {c} x y h) = o.second.labelled a b (Into c) (dependence.into x y h)
  labelled_too a b _ (dependence.back {c} x y h) = o.second.labelled a b (BackTo c) (dependence.back x y h)

  abbrev IsLabelled : Edge → Type 0
  IsLabelled e = (d : Dependence) × LabelNumber ns d e.label

  pub full_step : (e : Edge) (a : Node) (y : NodeId) → FullEdges f.inputs e → Same ns ms f g a e.from y → Next ns ms f g (FullEdges g.inputs) e y
  full_step e a y (h, is, as') same =
      let b : Ends e = subst Ends (sym as') (end h is) in
      let z = other_number p ns ms f g o b.0 e.to b.1 b.2 in
      let d = subst IsLabelled (sym as') (plain_label ns (o.first.labels h is).1) in
      let depends = (o.first.full_edges a b.0 d.0 e.from e.to e.label same.here b.2 d.1).1 (h, is, as') in
      let l = labelled_too a b.0 d.0 depends in
      record {
        how = d.0;
        label = l.0;
        end = b.0;
        to = z.0;
        same = z.1;
        old = d.1;
        new = l.1;
        is = (o.second.full_edges a b.0 d.0 y z.0 l.0 same.there z.1.there l.1).0 depends;
      }
