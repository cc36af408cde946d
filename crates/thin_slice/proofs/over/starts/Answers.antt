use Rattle.std.proofs.Common.{◌≡◌, subst, sym, ◌∙◌, arith}
use Rattle.std.proofs.lemmas.Option.{same_Some}
use Rattle.worklists.specs.Growth.{Grows}
use Rattle.worklists.proofs.Growing.{Grows-none, Grows-same, Grows-next, FromBelow}
use Rattle.dep_form.specs.declared.node.Edge.{Edge}
use Rattle.thin_slice.specs.Marks.{found}
use Rattle.thin_slice.specs.Steps.{StartsCall, StartsFrom}
use Rattle.thin_slice.proofs.over.starts.Goals as goal

pub loop-k-init : goal.loop-k-init
loop-k-init c = record {
  nodes = c.requires.nodes;
  from = omega arith;
  grown = Grows-none (found c.args.nodes.now) (FromBelow (StartsFrom c.args.c c.args.low c.args.edges.now) c.args.low) (λ q f. absurd (omega (arith, f.1, f.2.0)));
}

pub loop-k-preserved : goal.loop-k-preserved
loop-k-preserved c =
    let R = StartsFrom c.args.c c.args.low c.args.edges.now in
    let k = c.loop-k.k in
    let e = c.edge_at-edge.result in
    let at = c.edge_at-edge.ensures in
    let old = found c.loop-k.nodes in
    let new = found c.start_one.new.nodes in
    record {
      nodes = c.start_one.ensures.nodes;
      from = omega (arith, c.loop-k.invariant.from);
      grown = Grows-next R k (found c.args.nodes.now) old new c.loop-k.invariant.grown
          (Grows-same old new (StartsCall c.args.c e) (R k) (λ q h. (c.loop-k.invariant.from, e, at, h))
          (λ q h. subst (λ (x : Edge). StartsCall c.args.c x q) (same_Some h.1 e (sym h.2 ∙ at)) h.3) c.start_one.ensures.grown);
    }

pub returns-clause-grown : goal.returns-clause-grown
returns-clause-grown c =
    let R = StartsFrom c.args.c c.args.low c.args.edges.now in
    let end : c.loop-k.k ≡ c.args.high = omega (arith, c.loop-k-test.false, c.loop-k.auto.k-end) in
    subst (λ n. Grows (found c.args.nodes.now) (found c.loop-k.nodes) (FromBelow R n)) end c.loop-k.invariant.grown
