use Rattle.std.proofs.Common.{◌≡◌, ◌<◌, List, All, Some, sym, subst, ◌∙◌}
use Rattle.std.proofs.lemmas.Option.{same_Some}
use Rattle.std.proofs.lemmas.Result.{on_ok_weaker}
use Rattle.std.specs.Prelude.{slice_get}
use Rattle.dep_form.proofs.WithinSystem.{exception_within}
use Rattle.dep_form.specs.declared.call_site.CallSite.{CallSite}
use Rattle.dep_form.specs.declared.rules.Var.{Var}
use Rattle.mod_ref.specs.Gains.{Gains}
use Rattle.mod_ref.proofs.Gaining.{gains_both}
use Rattle.worklists.specs.Growth.{FromOne}
use Rattle.value_tables.specs.Methods.{VarHas}
use Rattle.value_tables.specs.Values.{CallHas}
use Rattle.value_tables.proofs.Called.{arguments_within}
use Rattle.value_tables.proofs.calls.add_call.Goals as goal

pub add_arguments-requires-clause-vars : goal.add_arguments-requires-clause-vars
add_arguments-requires-clause-vars c =
    let s = c.args.x.now.system.now in
    let at = subst (λ (ks : List CallSite). slice_get ks c.args.c.0 ≡ Some c.call_at-call.result.now) c.items.ensures c.call_at-call.ensures in
    subst (λ (vs : List Var). All (λ (v : Var). v.0 < s.vars) vs) (sym c.items-2.ensures) (arguments_within s c.args.c.0 c.call_at-call.result.now at)

pub returns : goal.returns
returns c = λ k here.
    let s = c.args.x.now.system.now in
    let call = c.call_at-call.result.now in
    let old = c.args.sites.now.items in
    let mid = c.add_arguments.new.sites.items in
    let new = c.add_var.new.sites.items in
    let at = subst (λ (ks : List CallSite). slice_get ks c.args.c.0 ≡ Some call) c.items.ensures c.call_at-call.ensures in
    let same = same_Some call k (sym at ∙ here) in
    let first = subst (λ (vs : List Var). Gains old mid (FromOne (VarHas s) vs)) c.items-2.ensures c.in_ok-add_arguments.ensures in
    on_ok_weaker c.add_var.result (λ g. subst (λ (z : CallSite). Gains old new (CallHas s z)) same (gains_both old mid new (FromOne (VarHas s) call.arguments) (VarHas s call.exception) first g))
    (c.add_var.ensures s c.requires.method.solved (exception_within s c.args.c.0 call at))
