use Rattle.std.proofs.Common.{List, Option, sym, subst}
use Rattle.dep_form.specs.declared.node.Edge.{Edge}
use Rattle.dep_form.specs.declared.input.MethodInput.{MethodInput}
use Rattle.checked_facts.specs.Checks.{HasEdges}
use Rattle.checked_facts.proofs.facts.facts_of.Goals as goal

pub are_facts-requires : goal.are_facts-requires
are_facts-requires c =
    subst (λ (z : List (Option MethodInput) × List Edge). HasEdges z.0 z.1) (λ d. (c.items.ensures d, sym c.deref.ensures.value d)) c.in_ok-edges.ensures
