use Rattle.std.proofs.Common.{◌≡◌, Contains, refl, sym, subst}
use Rattle.dep_form.specs.declared.node.Edge.{Edge}
use Rattle.worklists.proofs.Growing.{Grows-more, of_whole}
use Rattle.plain_slice.specs.Edges.{Counts}
use Rattle.plain_slice.proofs.edges.expanded_edges.Goals as goal

pub loop-edge-preserved : goal.loop-edge-preserved
loop-edge-preserved c =
    Grows-more (λ (g e : Edge). Counts c.args.asked.now g × (e ≡ g)) c.args.edges.now c.loop-edge.edge-index _ c.new-kept.result.items c.loop-edge.kept.items c.add_counted.new.edges.items c.loop-edge-test.true c.loop-edge.invariant c.in_ok-add_counted.ensures

pub returns : goal.returns
returns c = λ e.
    let h = of_whole (λ (g e : Edge). Counts c.args.asked.now g × (e ≡ g)) c.args.edges.now c.loop-edge.edge-index c.new-kept.result.items c.loop-edge.kept.items c.new-kept.ensures.items c.loop-edge-test.false c.loop-edge.invariant e in (
      λ x. let f = h.0 x in subst (λ (g : Edge). Contains c.args.edges.now g × Counts c.args.asked.now g) (sym f.2.1) (f.1, f.2.0),
      λ x. h.1 (e, x.0, (x.1, refl)),
    )
