use Rattle.std.proofs.Common.{◌≡◌, true}
use Rattle.worklists.proofs.Growing.{Grows-same}
use Rattle.thin_slice.specs.Marks.{found}
use Rattle.thin_slice.specs.Steps.{StartsCall}
use Rattle.thin_slice.proofs.over.start_one.Goals as goal

pub returns-clause-grown : goal.returns-clause-grown
returns-clause-grown c =
    let e = c.is_call-holds.ensures in
    Grows-same (found c.args.nodes.now) (found c.add_if.new.nodes) (λ q. (c.is_call-holds.result ≡ true) × (q ≡ c.args.edge.from)) (StartsCall c.args.c c.args.edge)
    (λ q h. (e.0 h.0, h.1)) (λ q h. (e.1 h.0, h.1)) c.add_if.ensures.grown
