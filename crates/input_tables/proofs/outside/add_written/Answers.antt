use Rattle.std.proofs.Common.{◌<◌, ◌⊎◌, ℕ, List, length, true, false, sym, subst}
use Rattle.std.specs.Prelude.{All, OnOk}
use Rattle.worklists.specs.Growth.{FromOne}
use Rattle.mod_ref.specs.Gains.{Gains}
use Rattle.mod_ref.proofs.Touched.{both_told}
use Rattle.mod_ref.proofs.Within.{rule_of}
use Rattle.input_tables.specs.Effects.{AtArgument, AtCall}
use Rattle.input_tables.specs.declared.outside.Way.TheVariants.{Writes}
use Rattle.input_tables.proofs.outside.add_written.Goals as goal

pub add_arguments-requires-clause-arguments : goal.add_arguments-requires-clause-arguments
add_arguments-requires-clause-arguments c = subst (All (λ i. i < length c.args.call.now.site.now.arguments)) (sym c.items.ensures) (rule_of c.args.scene.now.system.now c.args.call.now.number.0 c.args.call.now.site.now c.args.call.now.rule.now c.requires.call.site c.requires.call.rule).2

pub add_arguments-requires-2-clause-arguments : goal.add_arguments-requires-2-clause-arguments
add_arguments-requires-2-clause-arguments c = subst (All (λ i. i < length c.args.call.now.site.now.arguments)) (sym c.items-2.ensures) (rule_of c.args.scene.now.system.now c.args.call.now.number.0 c.args.call.now.site.now c.args.call.now.rule.now c.requires.call.site c.requires.call.rule).3

pub returns : goal.returns
returns c =
    let s = c.args.scene.now.system.now in
    let mr = c.args.scene.now.effects.now in
    let call = c.args.call.now in
    let old = c.args.effects.now.items in
    let mid = c.add_arguments.new.effects.items in
    let new = c.add_arguments-2.new.effects.items in
    let one = subst (λ (is : List ℕ). Gains old mid (FromOne (AtArgument s mr false call.number call.site.now call.rule.now call.place) is)) c.items.ensures c.in_ok-add_arguments.ensures in
    let other = subst (λ (is : List ℕ). OnOk c.add_arguments-2.result (Gains mid new (FromOne (AtArgument s mr true call.number call.site.now call.rule.now call.place) is))) c.items-2.ensures c.add_arguments-2.ensures in
    both_told c.add_arguments-2.result old mid new (FromOne (AtArgument s mr false call.number call.site.now call.rule.now call.place) call.rule.now.states) (FromOne (AtArgument s mr true call.number call.site.now call.rule.now call.place) call.rule.now.arrays) (AtCall s mr Writes call.number call.site.now call.rule.now call.place) (λ x. (λ h. h, λ h. h)) one other
