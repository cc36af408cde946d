use Rattle.std.proofs.Common.{◌≡◌, true}
use Rattle.std.proofs.lemmas.Result.{on_ok_weaker}
use Rattle.worklists.proofs.Growing.{Grows-same}
use Rattle.plain_slice.specs.Tables.{pair}
use Rattle.plain_slice.specs.Rules.{FollowsOne}
use Rattle.plain_slice.proofs.levels.follow_one.Goals as goal

pub returns-clause-grown : goal.returns-clause-grown
returns-clause-grown c =
    let e = c.may_follow-holds.ensures in
    on_ok_weaker c.add_if.result (Grows-same c.args.pairs.now.items c.add_if.new.pairs.items (λ p. (c.may_follow-holds.result ≡ true) × (p ≡ pair c.args.edge.from.0 c.args.from.place)) (FollowsOne c.args.from c.args.edge)
    (λ p h. let w = e.0 h.0 in (w.0, w.1, h.1)) (λ p h. (e.1 (h.0, h.1), h.2))) c.add_if.ensures.grown
