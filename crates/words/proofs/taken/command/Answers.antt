use Rattle.std.proofs.Common.{rules, ap, ap₂, ◌≡◌, ◌∙◌, true}
use Rattle.clap.specs.Words.{App, app_of, rule_of, with_rule}
use Rattle.clap.specs.Simple.{app_of_fields}
use Rattle.words.specs.Command.{main_rule, folder_rule, script_rule, bare_app, slicer_app}
use Rattle.words.proofs.taken.command.Goals as goal

pub returns : goal.returns
unfolding slicer_app
returns c =
    let main_is : rule_of c.action-main.result ≡ main_rule = search rules in
    let folder_is : rule_of c.action-folder.result ≡ folder_rule = search rules in
    let script_is : rule_of c.action-scripts.result ≡ script_rule = search rules in
    let bare_is : app_of c.no_binary_name-bare.result ≡ bare_app = ap app_of_fields c.no_binary_name-bare.ensures ∙ ap (λ (a : App). record a { top = record a.top { no_binary_name = true } }) c.new-4.ensures.app in
    c.in_ok-whole.ensures.shape (search rules)
    ∙ ap₂ with_rule (c.in_ok-with_folder.ensures.shape (search rules)
    ∙ ap₂ with_rule (c.in_ok-with_main.ensures.shape (search rules) ∙ ap₂ with_rule bare_is main_is) folder_is) script_is
