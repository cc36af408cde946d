-- Nodes of a method as they are put one after another.
use Rattle.std.specs.Prelude.{◌≡◌, ◌++◌, ℕ, zero, suc, Bool, true, false, List, [], ◌∷◌, map}
use Rattle.slicer_ids.specs.Sets.{IsOrderedListOf}
use Rattle.slicer_ids.specs.declared.ids.LocId.{LocId}
use Rattle.dep_form.specs.declared.node.Node.{Node}
use Rattle.dep_form.specs.declared.node.Node.TheVariants.{Formal, HeapIn, Own, Argument, Result, Exception, HeapArg, HeapResult, Return, Thrown, HeapOut}
use Rattle.dep_form.specs.Nodes.{ComesBefore}
use Rattle.node_tables.specs.declared.segments.Heap.{Heap}
use Rattle.node_tables.specs.declared.segments.Heap.TheVariants.{Entry, Before, After, Exit}

-- the new list is the old one, and after it, in order and once each, what P holds of
abbrev pub AddsNodes : List Node → List Node → (Node → Type 0) → Type 0
AddsNodes old new P = (more : List Node) × (new ≡ old ++ more) × IsOrderedListOf ComesBefore more P

-- a location at a place of its method
abbrev pub heap_node : Heap → LocId → Node
heap_node Entry n = HeapIn n
heap_node (Before pc) n = HeapArg pc n
heap_node (After pc) n = HeapResult pc n
heap_node Exit n = HeapOut n

-- so many arguments of a method, and of a call
abbrev pub formals : ℕ → List Node
formals zero = []
formals (suc n) = formals n ++ Formal n ∷ []

abbrev pub arguments : ℕ → ℕ → List Node
arguments pc zero = []
arguments pc (suc n) = arguments pc n ++ Argument pc n ∷ []

-- the node, where it is there
abbrev pub optional : Bool → Node → List Node
optional true x = x ∷ []
optional false x = []

-- the nodes of a call, beside its own: arguments, result, exception, locations before it and after it
abbrev pub call_nodes : ℕ → ℕ → Bool → Bool → List LocId → List LocId → List Node
call_nodes pc n answers throws used changed =
    arguments pc n ++ optional answers (Result pc) ++ optional throws (Exception pc) ++ map (heap_node (Before pc)) used ++ map (heap_node (After pc)) changed

-- the nodes before the statements of a method, and after them
abbrev pub entry_nodes : ℕ → List LocId → List Node
entry_nodes n used = formals n ++ map (heap_node Entry) used

abbrev pub exit_nodes : Bool → Bool → List LocId → List Node
exit_nodes answers throws changed = optional answers Return ++ optional throws Thrown ++ map (heap_node Exit) changed

-- the nodes of a call of the root: its argument, and locations before it and after it
abbrev pub root_nodes : ℕ → Bool → List LocId → List LocId → List Node
root_nodes k given used changed = optional given (Argument k 0) ++ map (heap_node (Before k)) used ++ map (heap_node (After k)) changed
