use Rattle.std.proofs.Common.{◌<◌, ℕ, List, length, false, sym, subst}
use Rattle.std.specs.Prelude.{All, OnOk}
use Rattle.worklists.specs.Growth.{FromOne}
use Rattle.mod_ref.specs.Gains.{Gains}
use Rattle.mod_ref.proofs.Within.{rule_of}
use Rattle.input_tables.specs.Effects.{AtArgument, AtCall}
use Rattle.input_tables.proofs.outside.add_read.Goals as goal

pub add_arguments-requires-clause-arguments : goal.add_arguments-requires-clause-arguments
add_arguments-requires-clause-arguments c = subst (All (λ i. i < length c.args.call.now.site.now.arguments)) (sym c.items.ensures) (rule_of c.args.scene.now.system.now c.args.call.now.number.0 c.args.call.now.site.now c.args.call.now.rule.now c.requires.call.site c.requires.call.rule).0

pub returns : goal.returns
returns c = subst (λ (is : List ℕ). OnOk c.add_arguments.result (Gains c.args.effects.now.items c.add_arguments.new.effects.items (FromOne (AtArgument c.args.scene.now.system.now c.args.scene.now.effects.now false c.args.call.now.number c.args.call.now.site.now c.args.call.now.rule.now c.args.call.now.place) is))) c.items.ensures c.add_arguments.ensures
