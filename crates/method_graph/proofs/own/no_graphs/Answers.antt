use Rattle.std.proofs.Common.{◌+◌, None, [], ◌∷◌, length, length-append, ap, ◌∙◌}
use Rattle.method_graph.proofs.Keeping.{none_more}
use Rattle.method_graph.proofs.own.no_graphs.Goals as goal

pub loop-preserved : goal.loop-preserved
loop-preserved c = record {
  size = ap length c.in_ok-push_none.ensures ∙ length-append c.loop.graphs.items (None ∷ []) ∙ ap (λ n. n + 1) c.loop.invariant.size;
  none = rw c.in_ok-push_none.ensures (none_more c.loop.graphs.items c.loop.invariant.none);
}
