use Rattle.std.proofs.Common.{◌≡◌, ◌<◌, ℕ, get_or, sym, subst, List, ◌∙◌, Some, ap, length, arith}
use Rattle.std.specs.Prelude.{slice_get}
use Rattle.std.proofs.lemmas.Option.{slice_get-get_or, slice_get_within}
use Rattle.dep_form.specs.declared.rules.Var.{Var}
use Rattle.dep_form.specs.Outside.{IsReceiver}
use Rattle.dep_form.proofs.WithinSystem.{argument_within}
use Rattle.worklists.specs.Growth.{FromOne}
use Rattle.mod_ref.proofs.Touched.{told}
use Rattle.input_tables.specs.Effects.{AtArgument, AtReceiver, AtSite}
use Rattle.input_tables.proofs.Collecting.{by_receivers, by_variable}
use Rattle.input_tables.proofs.outside.add_argument.Goals.{else-call-via-then-call+else-argument-eq0, else-call-via-else-call}
use Rattle.input_tables.proofs.outside.add_argument.Goals as goal

at : (vs items : List Var) (i : ℕ) → items ≡ vs → i < length vs → slice_get vs i ≡ Some (get_or items i (record { 0 = 0 }))
at vs items i same lt = slice_get-get_or vs i (record { 0 = 0 }) lt ∙ ap (λ (ws : List Var). Some (get_or ws i (record { 0 = 0 }))) (sym same)

pub receivers_of-receivers-requires : goal.receivers_of-receivers-requires
receivers_of-receivers-requires c = omega (arith, slice_get_within c.args.scene.now.system.now.calls c.args.call.now.number.0 c.args.call.now.site.now c.requires.call.site, c.requires.scene.solved.outside_calls)

pub sites_of-sites-requires : goal.sites_of-sites-requires
sites_of-sites-requires c =
    let call = c.args.call.now in
    omega (arith, c.requires.scene.solved.vars, argument_within c.args.scene.now.system.now call.number.0 call.site.now c.args.argument (get_or c.items.result.now c.args.argument (record { 0 = 0 })) c.requires.call.site (at call.site.now.arguments c.items.result.now c.args.argument c.items.ensures c.requires.argument))

pub returns-then-argument-eq0 : goal.returns-then-argument-eq0
returns-then-argument-eq0 c =
    let s = c.args.scene.now.system.now in
    let mr = c.args.scene.now.effects.now in
    let call = c.args.call.now in
    told c.add_receivers.result c.args.effects.now.items c.add_receivers.new.effects.items (FromOne (AtReceiver s mr c.args.elements call.place) c.receivers_of-receivers.result.now) (AtArgument s mr c.args.elements call.number call.site.now call.rule.now call.place c.args.argument)
    (λ x. by_receivers s mr c.args.elements call.number call.site.now call.rule.now call.place c.args.argument x c.receivers_of-receivers.result.now (c.if-call.true, c.if-argument-eq0.true) (λ o. c.receivers_of-receivers.ensures s o c.requires.scene.solved)) c.add_receivers.ensures

none : (c : goal.After-add_sites) → IsReceiver c.args.call.now.site.now.instance c.args.argument → ⊥
none c r = elim c.else-call.branch [ else-call-via-then-call+else-argument-eq0 w ↦ w.if-argument-eq0.false r.1 | else-call-via-else-call w ↦ absurd (cc (sym r.0 ∙ w.if-call.false)) ]

pub returns-else-call : goal.returns-else-call
returns-else-call c =
    let s = c.args.scene.now.system.now in
    let mr = c.args.scene.now.effects.now in
    let call = c.args.call.now in
    told c.add_sites.result c.args.effects.now.items c.add_sites.new.effects.items (FromOne (AtSite s mr c.args.elements call.place) c.sites_of-sites.result.now) (AtArgument s mr c.args.elements call.number call.site.now call.rule.now call.place c.args.argument)
    (λ x. by_variable s mr c.args.elements call.number call.site.now call.rule.now call.place c.args.argument x (get_or c.items.result.now c.args.argument (record { 0 = 0 })) c.sites_of-sites.result.now (none c) c.requires.call.gone (at call.site.now.arguments c.items.result.now c.args.argument c.items.ensures c.requires.argument) (λ h. c.sites_of-sites.ensures s h c.requires.scene.solved)) c.add_sites.ensures
