use Rattle.std.proofs.Common.{◌≡◌, arith}
use Rattle.worklists.specs.Growth.{FromOne}
use Rattle.mod_ref.proofs.Touched.{told}
use Rattle.input_tables.specs.Effects.{AtCell, AtVariable}
use Rattle.input_tables.proofs.Collecting.{variable_is}
use Rattle.input_tables.proofs.touches.add_variable.Goals as goal

pub sites_of-requires : goal.sites_of-requires
sites_of-requires c = omega (arith, c.requires.within, c.requires.scene.solved.vars)

pub returns : goal.returns
returns c =
    told c.add_cells.result c.args.effects.now.items c.add_cells.new.effects.items (FromOne (AtCell c.args.scene.now.effects.now c.args.field c.args.at) c.sites_of.result.now) (AtVariable c.args.scene.now.system.now c.args.scene.now.effects.now c.args.field c.args.at c.args.v)
    (variable_is c.args.scene.now.system.now c.args.scene.now.effects.now c.args.at c.args.field c.args.v c.sites_of.result.now (λ h. c.sites_of.ensures c.args.scene.now.system.now h c.requires.scene.solved)) c.add_cells.ensures
