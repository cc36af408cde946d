use Rattle.std.proofs.Common.{◌≡◌, true}
use Rattle.std.proofs.lemmas.Result.{on_ok_weaker}
use Rattle.worklists.proofs.Growing.{Grows-same}
use Rattle.plain_slice.proofs.edges.add_formal.Goals as goal

pub returns-then-holds : goal.returns-then-holds
returns-then-holds c =
    on_ok_weaker c.add.result (Grows-same c.args.numbers.now.items c.add.new.items.items (λ j. j ≡ c.args.k) (λ j. (c.args.holds ≡ true) × (j ≡ c.args.k)) (λ j is. (c.if-holds.true, is)) (λ j h. h.1)) c.add.ensures.grown
