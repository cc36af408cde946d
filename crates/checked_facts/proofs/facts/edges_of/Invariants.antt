use Rattle.std.proofs.Common.{◌≡◌, ◌<◌, ℕ, Some}
use Rattle.std.specs.Prelude.{Contains, slice_get}
use Rattle.dep_form.specs.declared.node.Edge.{Edge}
use Rattle.dep_form.specs.declared.input.MethodInput.{MethodInput}
use Rattle.checked_facts.proofs.facts.edges_of.Given as goal

abbrev pub invariant-loop-input : goal.invariant-loop-input
invariant-loop-input l = (m : ℕ) (i : MethodInput) (e : Edge) → m < l.input-index → slice_get l.inputs m ≡ Some (Some i) → Contains i.direct e → Contains l.all.items e
