use Rattle.std.proofs.Common.{◌≡◌, List, subst}
use Rattle.std.proofs.lemmas.Result.{on_ok_weaker}
use Rattle.slicer_ids.specs.declared.ids.CallId.{CallId}
use Rattle.dep_form.specs.declared.call_site.CallSite.{CallSite}
use Rattle.method_facts.specs.Calls.{IsCallAt}
use Rattle.node_tables.proofs.Calls.{own_alone, own_and_call}
use Rattle.node_tables.proofs.statements.add_statement.Goals as goal

pub returns-in-None : goal.returns-in-None
returns-in-None c =
    let x = c.args.scene.now in
    own_alone x.system.now x.effects.now c.args.t c.args.answers c.args.nodes.now.items c.push.new.nodes.items c.in_ok-push.ensures
    (subst (λ (ks : List CallSite). (d : CallId) → IsCallAt ks c.args.t d → ⊥) c.items.ensures c.in-None.ensures)

pub returns-in-Some : goal.returns-in-Some
returns-in-Some c =
    let x = c.args.scene.now in
    let d = c.in-Some.c in
    let there = subst (λ (ks : List CallSite). IsCallAt ks c.args.t d) c.items.ensures c.in-Some.ensures in
    on_ok_weaker c.add_call.result
    (λ h. own_and_call x.system.now x.effects.now c.args.t c.args.answers c.args.nodes.now.items c.push.new.nodes.items c.add_call.new.nodes.items d there.0 c.requires.scene.placed there.1 there.2 c.in_ok-push.ensures h)
    (c.add_call.ensures there.0 there.1)
