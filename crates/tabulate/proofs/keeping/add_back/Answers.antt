use Rattle.std.proofs.Common.{ap, subst, sym}
use Rattle.slicer_ids.specs.declared.ids.NodeId.{NodeId}
use Rattle.dep_form.specs.declared.node.Edge.{Edge}
use Rattle.dep_form.specs.Summaries.{IsExitAt}
use Rattle.tabulate.proofs.Collecting.{return_added, no_return, thin_no_return, base_no_return, call_no_return}
use Rattle.tabulate.proofs.keeping.add_back.Goals as goal

pub returns-in_ok-push-in-Return : goal.returns-in_ok-push-in-Return
returns-in_ok-push-in-Return c = λ b. return_added c.args.f.now c.args.into.now.items c.push.new.self.items c.args.edge c.in-Return.call c.in-Some.exit c.in-Return.is c.in-Some.ensures c.in_ok-push-in-Return.ensures.items b

pub returns-in_default : goal.returns-in_default
returns-in_default c = λ b. no_return c.args.f.now c.args.into.now.items c.args.edge b (λ e at same. c.in_default.ensures b.exit (subst (λ (n : NodeId). IsExitAt c.args.f.now b.exit n) (sym (ap (λ (y : Edge). y.from) same)) at))

pub returns-in-Thin : goal.returns-in-Thin
returns-in-Thin c = λ b. no_return c.args.f.now c.args.into.now.items c.args.edge b (λ e at same. thin_no_return c.args.edge b.call c.in-Thin.is (ap (λ (y : Edge). y.label) same))

pub returns-in-Base : goal.returns-in-Base
returns-in-Base c = λ b. no_return c.args.f.now c.args.into.now.items c.args.edge b (λ e at same. base_no_return c.args.edge b.call c.in-Base.is (ap (λ (y : Edge). y.label) same))

pub returns-in-Call : goal.returns-in-Call
returns-in-Call c = λ b. no_return c.args.f.now c.args.into.now.items c.args.edge b (λ e at same. call_no_return c.args.edge b.call c.in-Call.field-0 c.in-Call.is (ap (λ (y : Edge). y.label) same))
