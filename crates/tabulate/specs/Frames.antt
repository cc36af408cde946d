-- Where the rows of nodes stand: the nodes of a method have rows in the order of their numbers, and the exits of a method are
-- numbered in the order of their nodes.
use Rattle.std.specs.Prelude.{◌≡◌, ℕ, suc, ◌+◌, ◌*◌, ◌-◌, ◌/◌, ◌<◌, ◌≤◌, List, [], ◌∷◌, length, take, Contains, Option, slice_get, nat_lt, if◌then◌else◌, count_by}
use Rattle.std.specs.Option.{option_map_or}
use Rattle.slicer_ids.specs.declared.ids.NodeId.{NodeId}
use Rattle.dep_form.specs.declared.input.MethodInput.{MethodInput}
use Rattle.dep_form.specs.declared.facts.Facts.{Facts}
use Rattle.dep_form.specs.Firsts.{node_count, nodes_in}

abbrev pub node : ℕ → NodeId
node n = record { 0 = n }

abbrev pub count : Facts → ℕ
count p = node_count p.inputs

-- the place of the method that has this node
abbrev pub owner_in : List (Option MethodInput) → ℕ → ℕ
owner_in [] n = 0
owner_in (o ∷ rest) n = if nat_lt n (nodes_in o) then 0 else suc (owner_in rest (n - nodes_in o))

abbrev pub method_of : Facts → ℕ → ℕ
method_of p n = owner_in p.inputs n

-- the method's first node, and how many it has
abbrev pub first : Facts → ℕ → ℕ
first p m = node_count (take m p.inputs)

abbrev pub size : Facts → ℕ → ℕ
size p m = option_map_or nodes_in (slice_get p.inputs m) 0

-- how many exits have a node before this one; of an exit's node, the exit's number
abbrev pub before : ℕ → List NodeId → ℕ
before n xs = count_by (λ (x : NodeId). nat_lt x.0 n) xs

abbrev pub exits_before : Facts → ℕ → ℕ
exits_before p n = before n p.exits

abbrev pub first_exit : Facts → ℕ → ℕ
first_exit p m = exits_before p (first p m)

abbrev pub exit_count : Facts → ℕ → ℕ
exit_count p m = exits_before p (first p m + size p m) - first_exit p m

-- how many words have a bit for each exit of the method
abbrev pub width : Facts → ℕ → ℕ
width p m = (exit_count p m + 63) / 64

-- the place of an exit's node among the exits of its method
abbrev pub number_of : Facts → ℕ → ℕ
number_of p e = exits_before p e - first_exit p (method_of p e)

-- a node's place in its method, and the first word of its row
abbrev pub row : Facts → ℕ → ℕ
row p n = n - first p (method_of p n)

abbrev pub at : Facts → ℕ → ℕ
at p n = row p n * width p (method_of p n)

abbrev pub IsExit : Facts → ℕ → Type 0
IsExit p e = (e < count p) × Contains p.exits (node e)

-- the node is one of the method's
abbrev pub IsOf : Facts → ℕ → ℕ → Type 0
IsOf p n m = (n < count p) × (method_of p n ≡ m)

pub record IsPlaced (p : Facts) (n : ℕ) : Type 0 where
  pub owned : method_of p n < length p.inputs
  pub above : first p (method_of p n) ≤ n
  pub below : n < first p (method_of p n) + size p (method_of p n)
