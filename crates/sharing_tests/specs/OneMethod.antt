-- The facts of one method that hands on its argument.
use Rattle.std.specs.Prelude.{◌≡◌, ℕ, List, [], ◌∷◌, Option, Some}
use Rattle.slicer_ids.specs.declared.ids.NodeId.{NodeId}
use Rattle.slicer_ids.specs.declared.ids.ExitId.{ExitId}
use Rattle.dep_form.specs.declared.node.Node.{Node}
use Rattle.dep_form.specs.declared.node.Node.TheVariants.{Formal, Return}
use Rattle.dep_form.specs.declared.node.Edge.{Edge}
use Rattle.dep_form.specs.declared.node.Label.TheVariants.{Thin}
use Rattle.dep_form.specs.declared.input.MethodInput.{MethodInput}
use Rattle.dep_form.specs.declared.facts.Facts.{Facts}

-- from the argument to what is answered
abbrev pub flow_through : Edge
flow_through = record { from = record { 0 = 0 }; to = record { 0 = 1 }; label = Thin }

-- an input with these nodes and edges, and without locations
pub record HasParts (method first : ℕ) (nodes : List Node) (edges : List Edge) (i : MethodInput) : Type 0 where
  pub method_is : i.method.0 ≡ method
  pub first_is : i.first.0 ≡ first
  pub nodes_are : i.nodes ≡ nodes
  pub direct_is : i.direct ≡ edges
  pub puts_are : i.puts ≡ []
  pub gets_are : i.gets ≡ []

abbrev pub HandsOn : MethodInput → Type 0
HandsOn = HasParts 0 0 (Formal 0 ∷ Return ∷ []) (flow_through ∷ [])

abbrev pub IsEmptyRoot : MethodInput → Type 0
IsEmptyRoot = HasParts 1 2 [] []

-- the method, and a root that calls nothing; the one exit is what the method answers
pub record IsOneMethod (f : Facts) : Type 0 where
  pub input : MethodInput
  pub root : MethodInput
  pub inputs_are : f.inputs ≡ Some input ∷ Some root ∷ []
  pub hands_on : HandsOn input
  pub is_root : IsEmptyRoot root
  pub exits_are : f.exits ≡ record { 0 = 1 } ∷ []

abbrev pub only_exit : ExitId
only_exit = record { 0 = 0 }
