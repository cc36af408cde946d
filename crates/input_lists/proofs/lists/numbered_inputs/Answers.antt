use Rattle.std.proofs.Common.{◌≡◌, ◌≤◌, ◌^◌, length, arith}
use Rattle.std.proofs.lemmas.Result.{IfOk-weaker}
use Rattle.dep_form.specs.Firsts.{node_count}
use Rattle.program_form.specs.Programs.{Program}
use Rattle.fact_form.specs.FactTables.{AreInputs}
use Rattle.fact_form.proofs.Setting.{Setting}
use Rattle.input_lists.specs.Inputs.{AreInputsBelow}
use Rattle.input_lists.specs.Scenes.{IsNumberedProgram}
use Rattle.input_lists.proofs.Assembling.{all_count, inputs_are}
use Rattle.input_lists.proofs.Numbering.{setting_of}
use Rattle.input_lists.proofs.lists.numbered_inputs.Goals as goal

set : (c : goal.After-inputs_of) (p : Program) → IsNumberedProgram c.args.scene.now.edges c.args.scene.now.effects.effects.now p → Setting p c.args.scene.now.edges.system.now c.args.scene.now.effects.effects.now c.args.scene.now.edges.entries.now
set c p of =
    let x = c.args.scene.now in
    setting_of p x.edges.system.now x.effects.effects.now x.edges.entries.now x.edges of.0 of.1 c.requires.numbered.effects (c.constraints_give_the_facts.ensures p x.edges.system.now of.0.asked of.0.constraints)
    (λ t w v among. let f = c.static_spots_are_of_static_variables.ensures p x.edges.system.now t w v of.0.constraints among in (f.0, f.1))

pub returns-clause-inputs : goal.returns-clause-inputs
returns-clause-inputs c =
    let x = c.args.scene.now in
    IfOk-weaker c.inputs_of.result (λ v. AreInputsBelow x (length x.edges.rows.now) v.items)
    (λ v. (p : Program) → IsNumberedProgram x.edges x.effects.effects.now p → AreInputs p x.edges.system.now x.effects.effects.now x.edges.entries.now v.items)
    (λ v are p of. inputs_are x c.requires p of (set c p of) v.items are) c.inputs_of.ensures

pub returns-clause-few : goal.returns-clause-few
returns-clause-few c =
    let x = c.args.scene.now in
    let (p, of) = c.requires.numbered.program in
    IfOk-weaker c.inputs_of.result (λ v. AreInputsBelow x (length x.edges.rows.now) v.items) (λ v. node_count v.items ≤ 2 ^ 24)
    (λ v are. omega (arith, all_count x c.requires p of (set c p of) v.items are, c.requires.numbered.edges.rows.few)) c.inputs_of.ensures
