use Rattle.mod_ref.specs.Direct.{AtVariable, cell}
use Rattle.std.proofs.Common.{◌≡◌}
use Rattle.slicer_ids.specs.declared.ids.SiteId.{SiteId}
use Rattle.worklists.specs.Growth.{FromOne}
use Rattle.mod_ref.specs.declared.effects.Effect.{Effect}
use Rattle.mod_ref.proofs.Touched.{told, variable_is}
use Rattle.mod_ref.proofs.touches.add_variable.Goals as goal

pub returns : goal.returns
returns c =
    let s = c.args.system.now in
    told c.add_cells.result c.args.effects.now.items.items c.add_cells.new.effects.items.items (FromOne (λ (h : SiteId) (y : Effect). y ≡ cell h c.args.field c.args.method) c.sites_of.result.now) (AtVariable s c.args.field c.args.method c.args.v)
    (variable_is s c.args.field c.args.method c.args.v c.sites_of.result.now (λ h. c.sites_of.ensures s h c.requires.solved)) c.add_cells.ensures
