-- How the nodes of the inputs are numbered.
use Rattle.std.specs.Prelude.{ℕ, List, length, Option, Some, None, sum_by}
use Rattle.dep_form.specs.declared.input.MethodInput.{MethodInput}

-- how many nodes a method has; one that isn't reached has none
abbrev pub nodes_in : Option MethodInput → ℕ
nodes_in None = 0
nodes_in (Some i) = length i.nodes

-- how many nodes the inputs have together
abbrev pub node_count : List (Option MethodInput) → ℕ
node_count inputs = sum_by nodes_in inputs
