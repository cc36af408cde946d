use Rattle.std.proofs.Common.{rules, sym, subst, inl, inr, List, take, Contains}
use Rattle.slicer_ids.specs.declared.ids.NodeId.{NodeId}
use Rattle.dep_form.specs.Slices.{ModeEdges}
use Rattle.thin_slice.specs.declared.needs.Phase.TheVariants.{Up}
use Rattle.thin_slice.specs.Marks.{found}
use Rattle.thin_slice.specs.Needs.{IsServed}
use Rattle.thin_slice.specs.Steps.{GoesBack}
use Rattle.thin_slice.specs.Walks.{IsUp}
use Rattle.thin_slice.proofs.Needing.{still_served}
use Rattle.thin_slice.proofs.Phasing.{step_need, step_done, stops, taken, longer, kept_front, up_goes_on, contains_at}
use Rattle.thin_slice.proofs.phases.walk_up.Goals as goal

pub returns-then-is_need-clause-walking : goal.returns-then-is_need-clause-walking
returns-then-is_need-clause-walking g c = λ seeds h.
    let f = c.args.f.now in
    let E = ModeEdges f.inputs c.args.mode in
    let old = found c.loop-next.nodes in
    let new = found c.step-go.new.nodes in
    let n = c.at-n.result in
    let s = step_need f (g.G.SeenGraphs.has_seen c.args.graphs.now) (λ e. g.R.KnownRows.known c.step-go.new.rows e c.args.mode) E n old new (GoesBack E Up n) c.step-go.result (search rules) c.step-go.ensures.step in
    subst (λ xs. IsUp E seeds c.loop-next.next xs) (sym s.0) (c.loop-next.invariant.walking seeds h)

pub returns-then-is_need-clause-served : goal.returns-then-is_need-clause-served
returns-then-is_need-clause-served g c = λ n k.
    let f = c.args.f.now in
    let Seen = g.G.SeenGraphs.has_seen c.args.graphs.now in
    let E = ModeEdges f.inputs c.args.mode in
    let old = found c.loop-next.nodes in
    let new = found c.step-go.new.nodes in
    let s = step_need f Seen (λ e. g.R.KnownRows.known c.step-go.new.rows e c.args.mode) E c.at-n.result old new (GoesBack E Up c.at-n.result) c.step-go.result (search rules) c.step-go.ensures.step in
    still_served f Seen (λ e. g.R.KnownRows.known c.loop-next.rows e c.args.mode) (λ e. g.R.KnownRows.known c.step-go.new.rows e c.args.mode)
    (λ e h. g.met.R.KnownRows.later_known _ _ e c.args.mode c.step-go.ensures.later h) n
    (c.loop-next.invariant.served n (subst (λ (xs : List NodeId). Contains (take c.loop-next.next xs) n) s.0 k))

pub returns-then-is_need-clause-stop : goal.returns-then-is_need-clause-stop
returns-then-is_need-clause-stop g c =
    let f = c.args.f.now in
    let Seen = g.G.SeenGraphs.has_seen c.args.graphs.now in
    let E = ModeEdges f.inputs c.args.mode in
    let old = found c.loop-next.nodes in
    let new = found c.step-go.new.nodes in
    let n = c.at-n.result in
    let go = c.step-go.result in
    let s = step_need f Seen (λ e. g.R.KnownRows.known c.step-go.new.rows e c.args.mode) E n old new (GoesBack E Up n) go (search rules) c.step-go.ensures.step in
    stops f Seen (λ e. g.R.KnownRows.known c.step-go.new.rows e c.args.mode) E n old new go c.loop-next.next (search rules) (contains_at old c.loop-next.next n c.at-n.ensures) s

pub loop-next-preserved : goal.loop-next-preserved
loop-next-preserved g c =
    let laws = g.met.R.KnownRows in
    let f = c.args.f.now in
    let Seen = g.G.SeenGraphs.has_seen c.args.graphs.now in
    let E = ModeEdges f.inputs c.args.mode in
    let old = found c.loop-next.nodes in
    let new = found c.step-go.new.nodes in
    let x = c.at-n.result in
    let next = c.loop-next.next in
    let at = c.at-n.ensures in
    let s = step_done f Seen (λ e. g.R.KnownRows.known c.step-go.new.rows e c.args.mode) E x old new (GoesBack E Up x) c.step-go.result (search rules) c.step-go.ensures.step in
    record {
      nodes = c.step-go.ensures.nodes;
      within = longer next x old new (GoesBack E Up x) at s.1;
      rows = c.step-go.ensures.rows;
      later = laws.later_trans _ _ _ c.loop-next.invariant.later c.step-go.ensures.later;
      front = kept_front next x old new (GoesBack E Up x) at s.1 (found c.args.nodes.now) c.loop-next.invariant.front;
      walking = λ seeds h. up_goes_on E seeds next x old new at s.1 (c.loop-next.invariant.walking seeds h);
      served = λ n k. elim (taken next x old new (GoesBack E Up x) at s.1 n k) [
        | inl o ↦ still_served f Seen (λ e. g.R.KnownRows.known c.loop-next.rows e c.args.mode) (λ e. g.R.KnownRows.known c.step-go.new.rows e c.args.mode) (λ e h. laws.later_known _ _ e c.args.mode c.step-go.ensures.later h) n (c.loop-next.invariant.served n o)
        | inr e ↦ subst (λ y. IsServed f Seen (λ e. g.R.KnownRows.known c.step-go.new.rows e c.args.mode) y) (sym e) s.0
      ];
    }
