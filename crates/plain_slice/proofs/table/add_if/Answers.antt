use Rattle.std.proofs.Common.{◌≡◌, true}
use Rattle.std.proofs.lemmas.Result.{on_ok_weaker}
use Rattle.worklists.proofs.Growing.{Grows-same}
use Rattle.plain_slice.proofs.table.add_if.Goals as goal

pub returns-then-holds-clause-grown : goal.returns-then-holds-clause-grown
returns-then-holds-clause-grown c =
    on_ok_weaker c.add.result (Grows-same c.args.pairs.now.items c.add.new.pairs.items (λ p. p ≡ c.args.pair) (λ p. (c.args.holds ≡ true) × (p ≡ c.args.pair)) (λ p e. (c.if-holds.true, e)) (λ p h. h.1)) c.add.ensures.grown
