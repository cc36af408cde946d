use Rattle.std.proofs.Common.{take}
use Rattle.thin_slice.specs.declared.needs.Go.TheVariants.{Finished}
use Rattle.thin_slice.specs.Needs.{IsNeedIn}
use Rattle.thin_slice.proofs.needs.need_in.Given as goal

abbrev pub invariant-loop-edge : goal.invariant-loop-edge
invariant-loop-edge g l = record {
  rows : g.R.KnownRows.sound l.rows;
  later : g.R.KnownRows.later l.initial.rows l.rows;
  none : IsNeedIn l.f (g.G.SeenGraphs.has_seen l.graphs) (λ e. g.R.KnownRows.known l.rows e l.mode) (take l.edge-index l.edges) Finished;
}
