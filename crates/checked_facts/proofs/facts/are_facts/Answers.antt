use Rattle.std.proofs.Common.{◌≡◌, List, Option, subst}
use Rattle.dep_form.specs.declared.input.MethodInput.{MethodInput}
use Rattle.dep_form.specs.Firsts.{node_count}
use Rattle.dep_form.specs.WithinFacts.{FollowOn}
use Rattle.checked_facts.proofs.Whole.{facts_are}
use Rattle.checked_facts.proofs.facts.are_facts.Goals as goal

pub returns-in-Some : goal.returns-in-Some
returns-in-Some c =
    let counted = subst (λ (x : List (Option MethodInput)). (c.in-Some.nodes ≡ node_count x) × FollowOn x) c.items.ensures c.in-Some.ensures in
    λ t. facts_are c.args.parts.now c.args.edges.now c.in-Some.nodes c.requires counted.0 counted.1 (c.are_right.ensures.counted t) (c.are_right.ensures.order t) (c.are_right.ensures.lists t) (c.are_right.ensures.exits t) (c.are_right.ensures.edges t)
