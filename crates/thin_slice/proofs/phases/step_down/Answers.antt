use Rattle.std.proofs.Common.{sym, subst}
use Rattle.thin_slice.specs.Needs.{IsStepDown}
use Rattle.dep_form.specs.Slices.{ModeEdges}
use Rattle.thin_slice.specs.Marks.{found}
use Rattle.thin_slice.proofs.Phasing.{later_step}
use Rattle.thin_slice.proofs.phases.step_down.Goals as goal

pub returns-else-first-clause-step : goal.returns-else-first-clause-step
returns-else-first-clause-step g c =
    let f = c.args.f.now in
    let Seen = g.G.SeenGraphs.has_seen c.args.graphs.now in
    let E = ModeEdges f.inputs c.args.mode in
    let old = found c.args.nodes.now in
    let new = found c.step.new.nodes in
    subst (λ b. IsStepDown f Seen (λ e. g.R.KnownRows.known c.step.new.rows e c.args.mode) E b c.args.n c.step.result old new) (sym c.if-first.false)
    (later_step f Seen (λ e. g.R.KnownRows.known c.step.new.rows e c.args.mode) E c.args.n old new c.step.result c.step.ensures.step)
