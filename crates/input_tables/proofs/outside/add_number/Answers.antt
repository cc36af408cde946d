use Rattle.std.proofs.Common.{sym, subst}
use Rattle.slicer_ids.specs.declared.ids.CallId.{CallId}
use Rattle.mod_ref.proofs.Gaining.{gains_none}
use Rattle.mod_ref.proofs.Touched.{told}
use Rattle.input_tables.specs.Effects.{AtCall, AtNumber, IsOutside}
use Rattle.input_tables.proofs.Collecting.{no_number, number_is}
use Rattle.input_tables.proofs.outside.add_number.Goals as goal

pub returns-in-None : goal.returns-in-None
returns-in-None c = gains_none c.args.effects.now.items (AtNumber c.args.scene.now.system.now c.args.scene.now.effects.now c.args.way c.args.number.0) (no_number c.args.scene.now.system.now c.args.scene.now.effects.now c.args.way c.args.number c.in-None.ensures.none)

pub add_call-requires-clause-call : goal.add_call-requires-clause-call
add_call-requires-clause-call c = subst (λ (n : CallId). IsOutside c.args.scene.now.system.now n c.in-Some.call.site.now c.in-Some.call.rule.now c.in-Some.call.place) (sym c.in-Some.ensures.some.1) c.in-Some.ensures.some.0

pub returns-in-Some : goal.returns-in-Some
returns-in-Some c =
    let call = c.in-Some.call in
    told c.add_call.result c.args.effects.now.items c.add_call.new.effects.items (AtCall c.args.scene.now.system.now c.args.scene.now.effects.now c.args.way call.number call.site.now call.rule.now call.place) (AtNumber c.args.scene.now.system.now c.args.scene.now.effects.now c.args.way c.args.number.0)
    (number_is c.args.scene.now.system.now c.args.scene.now.effects.now c.args.way c.args.number call.number call.site.now call.rule.now call.place c.in-Some.ensures.some.0 c.in-Some.ensures.some.1) c.add_call.ensures
