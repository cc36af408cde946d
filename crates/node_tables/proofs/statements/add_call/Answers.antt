use Rattle.std.proofs.Common.{◌≡◌, ◌↔◌, List, true, length, Some, sym, ap, subst, ◌∙◌, arith}
use Rattle.std.specs.Prelude.{OnOk}
use Rattle.std.proofs.lemmas.Option.{same_Some}
use Rattle.std.proofs.lemmas.Result.{on_ok_weaker}
use Rattle.slicer_ids.specs.Sets.{IsOrderedListOf}
use Rattle.slicer_ids.specs.declared.ids.LocId.{LocId}
use Rattle.dep_form.proofs.WithinSystem.{exception_within}
use Rattle.dep_form.specs.declared.call_site.CallSite.{CallSite}
use Rattle.dep_form.specs.declared.rules.Var.{Var}
use Rattle.method_facts.specs.Numbers.{LocBefore}
use Rattle.node_tables.specs.Segments.{AddsNodes, call_nodes}
use Rattle.node_tables.specs.Statements.{AtCall, IsChangedAt, IsUsedAt}
use Rattle.node_tables.proofs.StatementNodes.{call_listed}
use Rattle.node_tables.proofs.statements.add_call.Goals as goal

pub is_something-throws-requires : goal.is_something-throws-requires
is_something-throws-requires c = omega (arith, exception_within c.args.scene.now.system.now c.args.c.0 c.call_at-site.result.now c.call_at-site.ensures, c.requires.scene.solved.vars)

pub returns : goal.returns
returns c = λ k site.
    let x = c.args.scene.now in
    let s = x.system.now in
    let mr = x.effects.now in
    let l = c.call_at-site.result.now in
    let n = length c.items-count.result.now in
    let throws = c.is_something-throws.result in
    let used = c.as_slice.result.now in
    let changed = c.as_slice-2.result.now in
    let uses = subst (λ (ls : List LocId). IsOrderedListOf LocBefore ls (IsUsedAt s mr c.args.c)) (sym c.as_slice.ensures.value) c.in_ok-used.ensures in
    let changes = subst (λ (ls : List LocId). IsOrderedListOf LocBefore ls (IsChangedAt s mr c.args.c)) (sym c.as_slice-2.ensures.value) c.in_ok-changed.ensures in
    let listed = call_listed s mr c.args.c l c.args.pc n c.args.answers throws used changed (ap (λ (vs : List Var). length vs) c.items-count.ensures) (c.is_something-throws.ensures s c.requires.scene.solved) uses changes in
    let same : l ≡ k = same_Some l k (sym c.call_at-site.ensures ∙ site) in
    subst (λ (z : CallSite). OnOk c.push_call.result (AddsNodes c.args.nodes.now.items c.push_call.new.nodes.items (AtCall s mr c.args.c z c.args.pc c.args.answers))) same
    (on_ok_weaker c.push_call.result (λ e. (call_nodes c.args.pc n c.args.answers throws used changed, e, listed)) c.push_call.ensures)
