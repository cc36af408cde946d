use Rattle.std.proofs.Common.{sym, subst}
use Rattle.digraph.specs.Graphs.{HasEdge, IsMarked}
use Rattle.digraph.proofs.Cycles.{on_from, cycle_edge}
use Rattle.digraph.proofs.cycle.is_on_cycle.Goals as goal

pub returns-in-Ok : goal.returns-in-Ok
returns-in-Ok c = (
  λ t. let h = c.is_next.ensures.0 t in on_from (HasEdge c.args.graph.now) c.args.node h.0 c.args.node ((c.in-Ok.ensures.exact h.0).0 (subst (λ marks. IsMarked marks h.0) c.deref.ensures.value h.1)) h.2,
  λ t. let e = cycle_edge c.args.graph.now c.args.node t in c.is_next.ensures.1 (e.0, subst (λ marks. IsMarked marks e.0) (sym c.deref.ensures.value) ((c.in-Ok.ensures.exact e.0).1 e.1), e.2),
)
