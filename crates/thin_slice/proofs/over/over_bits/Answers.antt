use Rattle.std.proofs.Common.{◌≡◌, ◌<◌, ◌+◌, ◌*◌, true, arith, subst}
use Rattle.worklists.specs.Growth.{Grows}
use Rattle.worklists.proofs.Growing.{Grows-same, Grows-next, FromBelow}
use Rattle.thin_slice.specs.Marks.{found}
use Rattle.thin_slice.specs.Over.{ByBit, CallsInto, node_at}
use Rattle.thin_slice.proofs.over.over_bits.Goals as goal

pub loop-b-preserved : goal.loop-b-preserved
loop-b-preserved c =
    let bit = c.has_bit.ensures in
    let R = ByBit c.args.f.now c.args.c.call c.args.graph.now c.args.formals c.args.k c.args.word in
    let old = found c.loop-b.nodes in
    let new = found c.over_bit.new.nodes in
    let number = 64 * c.args.k + c.loop-b.b in
    record {
      nodes = c.over_bit.ensures.nodes;
      grown = Grows-next R c.loop-b.b (found c.args.nodes.now) old new c.loop-b.invariant.grown
          (Grows-same old new (λ q. (c.has_bit.result ≡ true) × (number < c.args.formals) × CallsInto c.args.f.now.inputs c.args.c.call (node_at c.args.graph.now number) q) (R c.loop-b.b)
          (λ q h. (bit.0 h.0, h.1, h.2)) (λ q h. (bit.1 h.0, h.1, h.2)) c.over_bit.ensures.grown);
    }

pub returns-clause-grown : goal.returns-clause-grown
returns-clause-grown c =
    let R = ByBit c.args.f.now c.args.c.call c.args.graph.now c.args.formals c.args.k c.args.word in
    let end : c.loop-b.b ≡ 64 = omega (arith, c.loop-b-test.false, c.loop-b.auto.b-end) in
    subst (λ n. Grows (found c.args.nodes.now) (found c.loop-b.nodes) (FromBelow R n)) end c.loop-b.invariant.grown
