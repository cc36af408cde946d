use Rattle.mod_ref.proofs.Touched.{told}
use Rattle.input_tables.specs.Effects.{AtFresh, AtInfo}
use Rattle.input_tables.proofs.Collecting.{fresh_is}
use Rattle.input_tables.proofs.fresh.add_number.Goals as goal

pub returns : goal.returns
returns c = told c.add_info.result c.args.effects.now.items c.add_info.new.effects.items (AtInfo c.args.scene.now.system.now c.args.scene.now.effects.now c.args.site c.info_of-info.result) (AtFresh c.args.scene.now.system.now c.args.scene.now.effects.now c.args.site.0)
    (fresh_is c.args.scene.now.system.now c.args.scene.now.effects.now c.args.site c.info_of-info.result c.info_of-info.ensures) c.add_info.ensures
