use Rattle.std.proofs.Common.{◌≡◌, ◌<◌, true}
use Rattle.worklists.proofs.Growing.{Grows-same}
use Rattle.thin_slice.specs.Marks.{found}
use Rattle.thin_slice.specs.Over.{CallsInto, node_at}
use Rattle.thin_slice.proofs.over.over_bit.Goals as goal

pub returns-then-number-formals-clause-grown : goal.returns-then-number-formals-clause-grown
returns-then-number-formals-clause-grown c =
    let P = CallsInto c.args.f.now.inputs c.args.c.call (node_at c.args.graph.now c.args.number) in
    Grows-same (found c.args.nodes.now) (found c.over_formal.new.nodes) P (λ q. (c.args.holds ≡ true) × (c.args.number < c.args.formals) × P q)
    (λ q h. (c.if-holds.true, c.if-number-formals.true, h)) (λ q h. h.2) c.over_formal.ensures.grown
