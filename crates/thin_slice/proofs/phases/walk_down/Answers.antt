use Rattle.std.proofs.Common.{rules, ◌≡◌, true, ◌≤◌, sym, subst, inl, inr, List, length, take, Contains, ap, length-append, arith}
use Rattle.slicer_ids.specs.declared.ids.NodeId.{NodeId}
use Rattle.dep_form.specs.Slices.{ModeEdges}
use Rattle.thin_slice.specs.Marks.{found}
use Rattle.thin_slice.specs.Needs.{IsServed}
use Rattle.thin_slice.specs.Steps.{StepsDown}
use Rattle.thin_slice.specs.Walks.{IsDown}
use Rattle.thin_slice.proofs.Needing.{still_served}
use Rattle.thin_slice.proofs.Phasing.{down_need, down_done, stops, taken, longer, kept_front, down_goes_on, contains_at, contains_before, same_front, by_either}
use Rattle.thin_slice.proofs.phases.walk_down.Goals as goal

pub returns-then-is_need-clause-walking : goal.returns-then-is_need-clause-walking
returns-then-is_need-clause-walking g c = λ seeds h.
    let f = c.args.f.now in
    let E = ModeEdges f.inputs c.args.mode in
    let old = found c.loop-next.nodes in
    let new = found c.step_down-go.new.nodes in
    let s = down_need f (g.G.SeenGraphs.has_seen c.args.graphs.now) (λ e. g.R.KnownRows.known c.step_down-go.new.rows e c.args.mode) E c.at-n.result old new c.is_below-first.result c.step_down-go.result (search rules) c.step_down-go.ensures.step in
    subst (λ xs. IsDown E seeds c.args.ups c.loop-next.next xs) (sym s.0) (c.loop-next.invariant.walking seeds h)

pub returns-then-is_need-clause-served : goal.returns-then-is_need-clause-served
returns-then-is_need-clause-served g c = λ n k.
    let f = c.args.f.now in
    let Seen = g.G.SeenGraphs.has_seen c.args.graphs.now in
    let E = ModeEdges f.inputs c.args.mode in
    let old = found c.loop-next.nodes in
    let new = found c.step_down-go.new.nodes in
    let s = down_need f Seen (λ e. g.R.KnownRows.known c.step_down-go.new.rows e c.args.mode) E c.at-n.result old new c.is_below-first.result c.step_down-go.result (search rules) c.step_down-go.ensures.step in
    still_served f Seen (λ e. g.R.KnownRows.known c.loop-next.rows e c.args.mode) (λ e. g.R.KnownRows.known c.step_down-go.new.rows e c.args.mode)
    (λ e h. g.met.R.KnownRows.later_known _ _ e c.args.mode c.step_down-go.ensures.later h) n
    (c.loop-next.invariant.served n (elim k [
      | inl a ↦ inl (subst (λ (xs : List NodeId). Contains (take c.args.ups xs) n) s.0 a)
      | inr b ↦ inr (subst (λ (xs : List NodeId). Contains (take c.loop-next.next xs) n) s.0 b)
    ]))

pub returns-then-is_need-clause-stop : goal.returns-then-is_need-clause-stop
returns-then-is_need-clause-stop g c =
    let f = c.args.f.now in
    let Seen = g.G.SeenGraphs.has_seen c.args.graphs.now in
    let E = ModeEdges f.inputs c.args.mode in
    let old = found c.loop-next.nodes in
    let new = found c.step_down-go.new.nodes in
    let n = c.at-n.result in
    let go = c.step_down-go.result in
    let s = down_need f Seen (λ e. g.R.KnownRows.known c.step_down-go.new.rows e c.args.mode) E n old new c.is_below-first.result go (search rules) c.step_down-go.ensures.step in
    stops f Seen (λ e. g.R.KnownRows.known c.step_down-go.new.rows e c.args.mode) E n old new go c.loop-next.next (search rules) (contains_at old c.loop-next.next n c.at-n.ensures) s

pub loop-next-preserved : goal.loop-next-preserved
loop-next-preserved g c =
    let laws = g.met.R.KnownRows in
    let f = c.args.f.now in
    let Seen = g.G.SeenGraphs.has_seen c.args.graphs.now in
    let E = ModeEdges f.inputs c.args.mode in
    let start = found c.args.nodes.now in
    let old = found c.loop-next.nodes in
    let new = found c.step_down-go.new.nodes in
    let x = c.at-n.result in
    let next = c.loop-next.next in
    let ups = c.args.ups in
    let at = c.at-n.ensures in
    let first = c.is_below-first.result in
    let s = down_done f Seen (λ e. g.R.KnownRows.known c.step_down-go.new.rows e c.args.mode) E x old new first c.step_down-go.result (search rules) c.step_down-go.ensures.step in
    let P : NodeId → Type 0 = StepsDown E first x in
    let more = c.loop-next.invariant.front in
    let enough : ups ≤ length old = omega (arith, c.requires.ups, ap length more.1, length-append start more.0) in
    let still : (n : NodeId) → IsServed f Seen (λ e. g.R.KnownRows.known c.loop-next.rows e c.args.mode) n → IsServed f Seen (λ e. g.R.KnownRows.known c.step_down-go.new.rows e c.args.mode) n =
    λ n h. still_served f Seen (λ e. g.R.KnownRows.known c.loop-next.rows e c.args.mode) (λ e. g.R.KnownRows.known c.step_down-go.new.rows e c.args.mode) (λ e h. laws.later_known _ _ e c.args.mode c.step_down-go.ensures.later h) n h in
    let early : first ≡ true → Contains (take ups old) x = λ h. contains_before old next ups x at (c.is_below-first.ensures.0 h) in
    record {
      nodes = c.step_down-go.ensures.nodes;
      within = longer next x old new P at s.1;
      rows = c.step_down-go.ensures.rows;
      later = laws.later_trans _ _ _ c.loop-next.invariant.later c.step_down-go.ensures.later;
      front = kept_front next x old new P at s.1 start more;
      walking = λ seeds h. down_goes_on E seeds next x old new at ups (c.loop-next.invariant.walking seeds h) first early s.1;
      served = λ n k. elim k [
        | inl a ↦ still n (c.loop-next.invariant.served n (inl (subst (λ (xs : List NodeId). Contains xs n) (same_front old new P ups s.1 enough) a)))
        | inr b ↦ elim (taken next x old new P at s.1 n b) [
          | inl o ↦ still n (c.loop-next.invariant.served n (inr o))
          | inr e ↦ subst (λ y. IsServed f Seen (λ e. g.R.KnownRows.known c.step_down-go.new.rows e c.args.mode) y) (sym e)
              (by_either (IsServed f Seen (λ e. g.R.KnownRows.known c.step_down-go.new.rows e c.args.mode) x) first (λ h. still x (c.loop-next.invariant.served x (inl (early h)))) s.0)
        ]
      ];
    }
