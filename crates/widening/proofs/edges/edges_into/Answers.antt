use Rattle.std.proofs.Common.{◌∙◌, sym, subst}
use Rattle.std.proofs.lemmas.Bool.{false≢true}
use Rattle.slicer_ids.specs.declared.ids.NodeId.{NodeId}
use Rattle.dep_form.specs.Slices.{NodesOf}
use Rattle.widening.specs.Edges.{IsOpened}
use Rattle.widening.proofs.edges.edges_into.Goals as goal

pub returns-then-is_end-clause-edges : goal.returns-then-is_end-clause-edges
returns-then-is_end-clause-edges g c = λ e.
    let x = c.args.expansions.now in
    let inputs = c.args.f.now.inputs in
    let copied = c.in_ok-copy_edges.ensures.edges e in
    let here : NodesOf inputs (IsOpened x) c.args.n = c.is_end.ensures.0 c.if-is_end.true in (
      λ k. let is = copied.0 k in ((is.0, λ b. subst (λ (n : NodeId). NodesOf inputs (IsOpened x) n) (sym is.1) here), is.1),
      λ h. copied.1 (h.0.0, h.1),
    )

pub returns-clause-edges : goal.returns-clause-edges
returns-clause-edges g c = λ e.
    let x = c.args.expansions.now in
    let inputs = c.args.f.now.inputs in
    let copied = c.in_ok-copy_edges.ensures.edges e in
    let kept = c.drop_bases.ensures e in
    let nowhere : NodesOf inputs (IsOpened x) c.args.n → ⊥ = λ h. false≢true (sym c.if-is_end.false ∙ c.is_end.ensures.1 h) in (
      λ k. let o = kept.0 k in let is = copied.0 o.0 in ((is.0, λ b. absurd (o.1 b)), is.1),
      λ h. kept.1 (copied.1 (h.0.0, h.1), λ b. nowhere (subst (λ (n : NodeId). NodesOf inputs (IsOpened x) n) h.1 (h.0.1 b))),
    )
