use Rattle.std.proofs.Common.{rules}
use Rattle.dep_form.specs.Slices.{ModeEdges}
use Rattle.thin_slice.specs.Marks.{found}
use Rattle.thin_slice.specs.Steps.{GoesBack}
use Rattle.thin_slice.proofs.Callees.{starts_below}
use Rattle.thin_slice.proofs.Needing.{need_is_step, none_in}
use Rattle.thin_slice.proofs.follow.step_in.Goals as goal

pub need_in-need-requires-clause-nodes : goal.need_in-need-requires-clause-nodes
need_in-need-requires-clause-nodes g c = starts_below c.args.f.now c.args.n c.edges_into-edges.result.now c.edges_into-edges.ensures.into

pub returns-then-is_need-clause-step : goal.returns-then-is_need-clause-step
returns-then-is_need-clause-step g c =
    let f = c.args.f.now in
    let mode = c.args.mode in
    need_is_step f (g.G.SeenGraphs.has_seen c.args.graphs.now) (λ e. g.R.KnownRows.known c.need_in-need.new.rows e mode) mode c.args.n c.edges_into-edges.result.now c.edges_into-edges.ensures.into
    (GoesBack (ModeEdges f.inputs mode) c.args.phase c.args.n) c.need_in-need.result (found c.args.nodes.now) (search rules) c.need_in-need.ensures.need

pub follow-requires-clause-served : goal.follow-requires-clause-served
follow-requires-clause-served g c = none_in c.args.f.now (g.G.SeenGraphs.has_seen c.args.graphs.now) (λ e. g.R.KnownRows.known c.need_in-need.new.rows e c.args.mode) c.edges_into-edges.result.now c.need_in-need.result (search rules) c.need_in-need.ensures.need
