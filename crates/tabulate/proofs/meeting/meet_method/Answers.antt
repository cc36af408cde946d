use Rattle.std.proofs.Common.{sym, subst, ap}
use Rattle.dep_form.specs.declared.facts.Facts.{Facts}
use Rattle.dep_form.specs.Graphs.{HasInput, IsGraphIn}
use Rattle.slicer_ids.specs.declared.ids.MethodId.{MethodId}
use Rattle.tabulate.proofs.Placing.{methods_set, met_there, kept_others}
use Rattle.tabulate.proofs.MeetLaws.{if_ok}
use Rattle.tabulate.proofs.meeting.meet_method.Goals as goal

pub graph-requires-clause-inside : goal.graph-requires-clause-inside
graph-requires-clause-inside g c = subst (λ (f : Facts). HasInput f.inputs c.args.m) (sym c.requires.facts) c.requires.method

pub keep-requires : goal.keep-requires
keep-requires g c = subst (λ (f : Facts). IsGraphIn f.inputs c.args.m c.in_ok-graph.graph.now) c.requires.facts (if_ok _ c.graph.result c.in_ok-graph.graph c.in_ok-graph.was c.graph.follows.holds-at-none.2)

pub returns-clause-methods : goal.returns-clause-methods
returns-clause-methods g c = methods_set c.args.f.now c.args.methods.now.items c.requires.methods c.args.m.0 c.in_ok-method.method c.in_ok-method.ensures.0 (ap (λ (k : MethodId). k.0) c.in_ok-method.ensures.1)

pub returns-clause-kept : goal.returns-clause-kept
returns-clause-kept g c = kept_others c.args.f.now c.args.methods.now.items c.requires.methods c.args.m.0 c.in_ok-method.method c.in_ok-method.ensures.0 (ap (λ (k : MethodId). k.0) c.in_ok-method.ensures.1) (c.is_met.ensures.none c.if-is_met.false)

pub returns-clause-met : goal.returns-clause-met
returns-clause-met g c = (c.in_ok-method.method, met_there c.args.f.now c.args.methods.now.items c.requires.methods c.args.m.0 c.in_ok-method.method c.in_ok-method.ensures.0 (ap (λ (k : MethodId). k.0) c.in_ok-method.ensures.1))

pub returns-then-is_met-clause-met : goal.returns-then-is_met-clause-met
returns-then-is_met-clause-met g c = c.is_met.ensures.yes c.if-is_met.true
