use Rattle.std.proofs.Common.{◌≡◌, ◌↔◌, List, Contains, subst}
use Rattle.slicer_ids.specs.declared.ids.MethodId.{MethodId}
use Rattle.dep_form.specs.declared.rules.Constraint.{Constraint}
use Rattle.dep_form.specs.declared.rules.Var.{Var}
use Rattle.fact_form.specs.EntryCalls.{root_of}
use Rattle.worklists.specs.Growth.{FromOne}
use Rattle.method_facts.specs.Entering.{Gives}
use Rattle.method_facts.proofs.GivenVariables.{gives_back, gives_there}
use Rattle.method_facts.proofs.given.given_variables.Goals as goal

pub returns-clause-members : goal.returns-clause-members
returns-clause-members c =
    let s = c.args.system.now in
    let all = c.in_ok-all.all.items in
    let is = subst (λ (ks : List Constraint). (x : Var) → Contains all x ↔ FromOne (Gives (root_of s)) ks x) c.items.ensures
    (subst (λ (r : MethodId). (x : Var) → Contains all x ↔ FromOne (Gives r) c.items.result.now x) c.root_of-root.ensures c.in_ok-all.ensures) in
    λ x. (λ h. gives_there s x ((is x).0 ((c.in_order.ensures.members x).0 h)), λ g. (c.in_order.ensures.members x).1 ((is x).1 (gives_back s x g)))
