use Rattle.std.proofs.Common.{◌<◌, ◌⊎◌, ℕ, List, length, true, false, sym, subst}
use Rattle.std.specs.Prelude.{All, OnOk}
use Rattle.worklists.specs.Growth.{FromOne}
use Rattle.mod_ref.specs.Gains.{Gains}
use Rattle.mod_ref.specs.Direct.{AtArgument, AtCall}
use Rattle.mod_ref.proofs.Gaining.{gains_both}
use Rattle.mod_ref.proofs.Touched.{told, both_told}
use Rattle.mod_ref.proofs.Within.{rule_of}
use Rattle.mod_ref.proofs.Passing.{read_is}
use Rattle.mod_ref.proofs.outside.add_read.Goals as goal

pub add_arguments-requires-clause-arguments : goal.add_arguments-requires-clause-arguments
add_arguments-requires-clause-arguments c =
    let call = c.args.call.now in
    subst (All (λ i. i < length call.site.now.arguments)) (sym c.items.ensures) (rule_of c.args.system.now call.number.0 call.site.now call.rule.now c.requires.call.site c.requires.call.rule).0

pub add_arguments-requires-2-clause-arguments : goal.add_arguments-requires-2-clause-arguments
add_arguments-requires-2-clause-arguments c =
    let call = c.args.call.now in
    subst (All (λ i. i < length call.site.now.arguments)) (sym c.items-2.ensures) (rule_of c.args.system.now call.number.0 call.site.now call.rule.now c.requires.call.site c.requires.call.rule).1

pub returns : goal.returns
returns c =
    let s = c.args.system.now in
    let call = c.args.call.now in
    let old = c.args.effects.now.items.items in
    let mid = c.add_arguments.new.effects.items.items in
    let new = c.add_arguments-2.new.effects.items.items in
    let one = subst (λ (is : List ℕ). Gains old mid (FromOne (AtArgument s false call) is)) c.items.ensures c.in_ok-add_arguments.ensures in
    let other = subst (λ (is : List ℕ). OnOk c.add_arguments-2.result (Gains mid new (FromOne (AtArgument s false call) is))) c.items-2.ensures c.add_arguments-2.ensures in
    both_told c.add_arguments-2.result old mid new (FromOne (AtArgument s false call) call.rule.now.reads) (FromOne (AtArgument s false call) call.rule.now.written) (AtCall s false call) (read_is s call) one other
