use Rattle.mod_ref.proofs.Gaining.{gains_none}
use Rattle.mod_ref.proofs.Touched.{told}
use Rattle.input_tables.specs.Effects.{AtArray, AtCallOf}
use Rattle.input_tables.proofs.fresh.add_call.Goals as goal

pub returns-then-is_answered : goal.returns-then-is_answered
returns-then-is_answered c = told c.add_array.result c.args.effects.now.items c.add_array.new.effects.items (AtArray c.args.scene.now.system.now c.args.scene.now.effects.now c.args.site c.args.at) (AtCallOf c.args.scene.now.system.now c.args.scene.now.effects.now c.args.c c.args.site c.args.at)
    (λ x. (λ a. (c.is_answered.ensures.0 c.if-is_answered.true, a), λ a. a.1)) c.add_array.ensures
