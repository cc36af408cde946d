use Rattle.mod_ref.specs.Direct.{AtCall, AtNumber}
use Rattle.mod_ref.proofs.Gaining.{gains_none}
use Rattle.mod_ref.proofs.Touched.{told}
use Rattle.mod_ref.proofs.Passing.{no_number, number_is}
use Rattle.mod_ref.proofs.outside.add_number.Goals as goal

pub returns-in-None : goal.returns-in-None
returns-in-None c = gains_none c.args.effects.now.items.items (AtNumber c.args.system.now c.args.write c.args.number.0) (no_number c.args.system.now c.args.write c.args.number c.in-None.ensures.none)

pub returns-in-Some : goal.returns-in-Some
returns-in-Some c =
    let s = c.args.system.now in
    told c.add_call.result c.args.effects.now.items.items c.add_call.new.effects.items.items (AtCall s c.args.write c.in-Some.call) (AtNumber s c.args.write c.args.number.0)
    (number_is s c.args.write c.args.number c.in-Some.call c.in-Some.ensures.some.0 c.in-Some.ensures.some.1) c.add_call.ensures
