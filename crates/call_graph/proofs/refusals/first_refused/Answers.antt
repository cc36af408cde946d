use Rattle.std.proofs.Common.{List, length, map, subst, ◌≤◌}
use Rattle.dep_form.specs.declared.call_site.CallSite.{CallSite}
use Rattle.hierarchy.specs.Places.{declared_at}
use Rattle.call_graph.proofs.Naming.{all_below, none_below, one_below}
use Rattle.call_graph.proofs.refusals.first_refused.Goals as goal

pub loop-number-init : goal.loop-number-init
loop-number-init c = none_below c.args.scene.now.classes.now (map declared_at c.args.scene.now.places.now) c.args.scene.now.system.now

pub loop-number-preserved : goal.loop-number-preserved
loop-number-preserved c =
    one_below c.args.scene.now.classes.now (map declared_at c.args.scene.now.places.now) c.args.scene.now.system.now c.loop-number.number c.loop-number.first c.refused_call-next.result c.first_of-first.result
    c.first_of-first.ensures c.loop-number.invariant c.refused_call-next.ensures

pub returns : goal.returns
returns c =
    all_below c.args.scene.now.classes.now (map declared_at c.args.scene.now.places.now) c.args.scene.now.system.now c.loop-number.number c.loop-number.first
    (subst (λ (ks : List CallSite). length ks ≤ c.loop-number.number) c.items-number-end.ensures c.loop-number-test.false) c.loop-number.invariant
