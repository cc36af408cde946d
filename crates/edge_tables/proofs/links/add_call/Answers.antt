use Rattle.std.proofs.Common.{◌≡◌, ◌∙◌}
use Rattle.worklists.specs.Growth.{FromOne}
use Rattle.mod_ref.proofs.Gaining.{gains_none}
use Rattle.mod_ref.proofs.Touched.{told}
use Rattle.edge_tables.specs.Links.{IsCallLink, IsLinkTo}
use Rattle.edge_tables.proofs.LinkLists.{call_link, no_link}
use Rattle.edge_tables.proofs.links.add_call.Goals as goal

pub returns-in-None : goal.returns-in-None
returns-in-None c =
    let s = c.args.scene.now.system.now in
    let site = c.place_of.ensures in
    gains_none c.args.links.now.items (IsCallLink c.args.by_target s c.args.number.0) (no_link c.args.by_target s c.args.number site.0 site.1 (site.2 ∙ c.in-None.is))

pub returns-in-Some : goal.returns-in-Some
returns-in-Some c =
    let s = c.args.scene.now.system.now in
    let site = c.place_of.ensures in
    told c.add_targets.result c.args.links.now.items c.add_targets.new.links.items (FromOne (IsLinkTo c.args.by_target c.args.number c.in-Some.place) c.targets_of-targets.result.now) (IsCallLink c.args.by_target s c.args.number.0)
    (call_link c.args.by_target s c.args.number site.0 c.in-Some.place site.1 (site.2 ∙ c.in-Some.is) c.targets_of-targets.result.now (λ t. c.targets_of-targets.ensures s t c.requires.scene.solved)) c.add_targets.ensures
