use Rattle.std.proofs.Common.{◌≡◌, ◌+◌, true}
use Rattle.std.proofs.lemmas.Result.{on_ok_weaker}
use Rattle.slicer_ids.specs.declared.ids.NodeId.{NodeId}
use Rattle.worklists.proofs.Growing.{Grows-same}
use Rattle.exit_lists.specs.Exits.{IsExitPlace, numbered}
use Rattle.exit_lists.proofs.Rising.{place_is, is_place}
use Rattle.exit_lists.proofs.collecting.add_place.Goals as goal
use Rattle.std.proofs.Common.{◌∙◌, sym}

pub returns-clause-members : goal.returns-clause-members
returns-clause-members c =
    on_ok_weaker c.add_if.result
    (λ g. Grows-same c.args.exits.now.items c.add_if.new.exits.items (λ (x : NodeId). (c.is_exit-exit.result ≡ true) × (x ≡ numbered (c.args.first + c.args.k))) (IsExitPlace c.args.first c.args.nodes.now c.args.k)
    (λ x h. place_is c.args.first c.args.nodes.now c.args.k c.node_at.result c.node_at.ensures x (sym c.is_exit-exit.ensures ∙ h.0, h.1))
    (λ x h. let w = is_place c.args.first c.args.nodes.now c.args.k c.node_at.result c.node_at.ensures x h in (c.is_exit-exit.ensures ∙ w.0, w.1)) g) c.add_if.ensures.members
