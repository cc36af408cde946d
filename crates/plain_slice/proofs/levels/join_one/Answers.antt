use Rattle.std.proofs.Common.{◌≡◌, true}
use Rattle.std.proofs.lemmas.Result.{on_ok_weaker}
use Rattle.worklists.proofs.Growing.{Grows-same}
use Rattle.plain_slice.specs.Tables.{pair}
use Rattle.plain_slice.specs.Rules.{JoinsOne}
use Rattle.plain_slice.proofs.levels.join_one.Goals as goal

pub returns-clause-grown : goal.returns-clause-grown
returns-clause-grown c =
    let e = c.is_whole_call-holds.ensures in
    on_ok_weaker c.add_if.result (Grows-same c.args.pairs.now.items c.add_if.new.pairs.items (λ p. (c.is_whole_call-holds.result ≡ true) × (p ≡ pair c.args.into.from.0 c.args.outer.place)) (JoinsOne c.args.outer c.args.inner c.args.back c.args.into)
    (λ p h. (e.0 h.0, h.1)) (λ p h. (e.1 h.0, h.1))) c.add_if.ensures.grown
