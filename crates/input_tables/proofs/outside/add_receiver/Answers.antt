use Rattle.mod_ref.proofs.Gaining.{gains_none}
use Rattle.mod_ref.proofs.Touched.{told}
use Rattle.input_tables.specs.Effects.{AtReceiver, AtSite}
use Rattle.input_tables.proofs.Collecting.{no_receiver, some_receiver}
use Rattle.input_tables.proofs.outside.add_receiver.Goals as goal

pub returns-in-None : goal.returns-in-None
returns-in-None c = gains_none c.args.effects.now.items (AtReceiver c.args.scene.now.system.now c.args.scene.now.effects.now c.args.elements c.args.at c.args.receiver) (λ x. no_receiver c.args.scene.now.system.now c.args.scene.now.effects.now c.args.at c.args.elements c.args.receiver x c.in-None.is)

pub returns-in-Some : goal.returns-in-Some
returns-in-Some c = told c.add_site.result c.args.effects.now.items c.add_site.new.effects.items (AtSite c.args.scene.now.system.now c.args.scene.now.effects.now c.args.elements c.args.at c.in-Some.site) (AtReceiver c.args.scene.now.system.now c.args.scene.now.effects.now c.args.elements c.args.at c.args.receiver)
    (some_receiver c.args.scene.now.system.now c.args.scene.now.effects.now c.args.at c.args.elements c.args.receiver c.in-Some.site c.in-Some.is) c.add_site.ensures
