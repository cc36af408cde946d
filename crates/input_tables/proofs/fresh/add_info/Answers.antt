use Rattle.mod_ref.proofs.Gaining.{gains_none}
use Rattle.mod_ref.proofs.Touched.{told}
use Rattle.input_tables.specs.Effects.{AtInfo, AtPlace}
use Rattle.input_tables.proofs.Collecting.{info_is, no_info}
use Rattle.input_tables.proofs.fresh.add_info.Goals as goal

pub returns-in-None : goal.returns-in-None
returns-in-None c = gains_none c.args.effects.now.items (AtInfo c.args.scene.now.system.now c.args.scene.now.effects.now c.args.site c.args.info) (no_info c.args.scene.now.system.now c.args.scene.now.effects.now c.args.site c.args.info c.array_place.result c.array_place.ensures c.in-None.is)

pub returns-in-Some : goal.returns-in-Some
returns-in-Some c = told c.add_place.result c.args.effects.now.items c.add_place.new.effects.items (AtPlace c.args.scene.now.system.now c.args.scene.now.effects.now c.args.site c.in-Some.at) (AtInfo c.args.scene.now.system.now c.args.scene.now.effects.now c.args.site c.args.info)
    (info_is c.args.scene.now.system.now c.args.scene.now.effects.now c.args.site c.args.info c.array_place.result c.in-Some.at c.array_place.ensures c.in-Some.is) c.add_place.ensures
