use Rattle.std.proofs.Common.{rules, get_or}
use Rattle.dep_form.specs.declared.node.Edge.{Edge}
use Rattle.dep_form.specs.declared.node.Label.TheVariants.{Thin}
use Rattle.thin_slice.proofs.Needing.{need_none_more, need_none_all, none_needed}
use Rattle.thin_slice.proofs.needs.need_in.Goals as goal

pub loop-edge-preserved : goal.loop-edge-preserved
loop-edge-preserved g c =
    let f = c.args.f.now in
    let d : Edge = record { from = record { 0 = 0 }; label = Thin; to = record { 0 = 0 } } in
    let laws = g.met.R.KnownRows in
    let Seen = g.G.SeenGraphs.has_seen c.args.graphs.now in
    let before = c.loop-edge.rows in
    let after = c.need_of_edge-need.new.rows in
    record {
      rows = c.need_of_edge-need.ensures.rows;
      later = laws.later_trans _ _ _ c.loop-edge.invariant.later c.need_of_edge-need.ensures.later;
      none = need_none_more f Seen (λ e. g.R.KnownRows.known before e c.args.mode) (λ e. g.R.KnownRows.known after e c.args.mode) c.args.edges.now c.loop-edge.edge-index d c.loop-edge-test.true
          (λ e h. laws.later_known before after e c.args.mode c.need_of_edge-need.ensures.later h) c.loop-edge.invariant.none
          (none_needed f Seen (λ e. g.R.KnownRows.known after e c.args.mode) (get_or c.args.edges.now c.loop-edge.edge-index d) c.need_of_edge-need.result (search rules) c.need_of_edge-need.ensures.need);
    }

pub returns-clause-need : goal.returns-clause-need
returns-clause-need g c = need_none_all c.args.f.now (g.G.SeenGraphs.has_seen c.args.graphs.now) (λ e. g.R.KnownRows.known c.loop-edge.rows e c.args.mode) c.args.edges.now c.loop-edge.edge-index c.loop-edge-test.false c.loop-edge.invariant.none
