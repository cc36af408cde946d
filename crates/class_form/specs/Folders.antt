-- The class files of a folder: names that stand twice, names that are their own ancestors, and the classes in order.
use Rattle.std.specs.Prelude.{◌≡◌, ◌≢◌, ◌⊎◌, ℕ, List, IsPermutation}
use Rattle.slicer_ids.specs.Walks.{LeadsOn}
use Rattle.slicer_ids.specs.Order.{BytesBefore}
use Rattle.class_form.specs.Classes.{IsNamed, IsAbove, AreInOrder}
use Rattle.class_form.specs.declared.class_file.ClassFile.{ClassFile}

-- two class files have the name
abbrev pub StandsTwice : List ClassFile → List ℕ → Type 0
StandsTwice classes name = (a : ℕ) × (b : ℕ) × (a ≢ b) × IsNamed classes name a × IsNamed classes name b

-- superclasses and interfaces lead from the class of this name back to it
abbrev pub IsOwnAncestor : List ClassFile → List ℕ → Type 0
IsOwnAncestor classes name = (c : ℕ) × IsNamed classes name c × LeadsOn (IsAbove classes) c c

-- the first by its bytes of the names of which P holds
abbrev pub IsLeastName : (List ℕ → Type 0) → List ℕ → Type 0
IsLeastName P name = P name × ((other : List ℕ) → P other → (other ≡ name) ⊎ BytesBefore name other)

-- no name stands twice
abbrev pub AreDistinct : List ClassFile → Type 0
AreDistinct classes = (name : List ℕ) → StandsTwice classes name → ⊥

-- no class is its own ancestor
abbrev pub AreAcyclic : List ClassFile → Type 0
AreAcyclic classes = (c : ℕ) → LeadsOn (IsAbove classes) c c → ⊥

-- the same class files in order, each name once, none its own ancestor
pub record IsHierarchyOf (files classes : List ClassFile) : Type 0 where
  pub same : IsPermutation files classes
  pub order : AreInOrder classes
  pub acyclic : AreAcyclic classes
