use Rattle.std.proofs.Common.{◌≡◌, true}
use Rattle.worklists.proofs.Growing.{Grows-same}
use Rattle.thin_slice.specs.Marks.{found}
use Rattle.thin_slice.proofs.over.add_if.Goals as goal

pub returns-then-holds-clause-grown : goal.returns-then-holds-clause-grown
returns-then-holds-clause-grown c = Grows-same (found c.args.nodes.now) (found c.add.new.self) (λ q. q ≡ c.args.n) (λ q. (c.args.holds ≡ true) × (q ≡ c.args.n)) (λ q e. (c.if-holds.true, e)) (λ q h. h.1) c.add.ensures.grown
