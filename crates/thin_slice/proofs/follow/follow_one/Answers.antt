use Rattle.std.proofs.Common.{◌≡◌, true, sym, ◌∙◌}
use Rattle.worklists.proofs.Growing.{Grows-same}
use Rattle.thin_slice.specs.Marks.{found}
use Rattle.thin_slice.specs.Steps.{FollowsOne}
use Rattle.thin_slice.proofs.follow.follow_one.Goals as goal

pub returns-clause-grown : goal.returns-clause-grown
returns-clause-grown c =
    let e = c.may_follow_label-holds.ensures in
    Grows-same (found c.args.nodes.now) (found c.add_if.new.nodes) (λ q. (c.may_follow_label-holds.result ≡ true) × (q ≡ c.args.edge.from)) (FollowsOne c.args.mode c.args.phase c.args.edge)
    (λ q h. (sym e ∙ h.0, h.1)) (λ q h. (e ∙ h.0, h.1)) c.add_if.ensures.grown
