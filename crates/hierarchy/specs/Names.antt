-- Class files by name, and the classes of the folder that they name.
use Rattle.std.specs.Prelude.{◌≡◌, ℕ, List, [], ◌∷◌, ◌++◌, length, Option, Some, None, Contains, MatchOption, unwrap_or, IsSortedByKey}
use Rattle.std.specs.Ordering.{nat_cmp}
use Rattle.std.specs.Cmp.Lexicographic.{slice_cmp}
use Rattle.std.specs.Global.{Vec}
use Rattle.class_form.specs.Pools.{class_at}
use Rattle.class_form.specs.Classes.{class_name, IsClass, IsNamed}
use Rattle.class_form.specs.declared.class_file.ClassFile.{ClassFile}
use Rattle.digraph.specs.Graphs.{targets}
use Rattle.hierarchy.specs.declared.parents.Above.{Above}
use Rattle.hierarchy.specs.declared.parents.Above.TheVariants.{Interfaces, Parents}

-- the name of a class file, or no bytes where it has none
abbrev pub name_bytes : ClassFile → List ℕ
name_bytes k = unwrap_or (class_name k) []

-- no class's name comes before that of the class before it
abbrev pub IsByName : List ClassFile → Type 0
IsByName classes = IsSortedByKey name_bytes (slice_cmp nat_cmp) classes

-- the index names this class of the folder
abbrev pub LeadsTo : List ClassFile → ClassFile → ℕ → ℕ → Type 0
LeadsTo classes k index c = (name : List ℕ) × (class_at k.pool index ≡ Some name) × IsNamed classes name c

-- one of the indices does
abbrev pub LeadsToOne : List ClassFile → ClassFile → List ℕ → ℕ → Type 0
LeadsToOne classes k indices c = (index : ℕ) × Contains indices index × LeadsTo classes k index c

-- the classes of the folder that a list of indices names, in order; what names none is passed over
pub data Leading (classes : List ClassFile) (k : ClassFile) : List ℕ → List ℕ → Type 0 where
  no_index : Leading classes k [] []
  passed_over : {i : ℕ} {is cs : List ℕ} → ((c : ℕ) → LeadsTo classes k i c → ⊥) → Leading classes k is cs → Leading classes k (i ∷ is) cs
  leads_there : {i c : ℕ} {is cs : List ℕ} → LeadsTo classes k i c → Leading classes k is cs → Leading classes k (i ∷ is) (c ∷ cs)

abbrev pub indices_of : Above → ClassFile → List ℕ
indices_of Interfaces k = k.interfaces
indices_of Parents k = k.interfaces ++ k.super_class ∷ []

-- a row for each class, with the classes that it names
pub record AreEdges (above : Above) (classes : List ClassFile) (rows : List (Vec ℕ)) : Type 0 where
  pub len : length rows ≡ length classes
  pub each : (a : ℕ) (k : ClassFile) → IsClass classes a k → Leading classes k (indices_of above k) (targets rows a)

-- the superclass of a class, or none in the folder
abbrev pub IsSuperOf : List ClassFile → ℕ → Option ℕ → Type 0
IsSuperOf classes c found =
    (k : ClassFile) × IsClass classes c k × MatchOption found ((s : ℕ) → LeadsTo classes k k.super_class s → ⊥) (λ s. LeadsTo classes k k.super_class s)

-- a class and its superclasses of the folder, upwards
pub data SuperChain (classes : List ClassFile) : Option ℕ → List ℕ → Type 0 where
  chain_end : SuperChain classes None []
  chain_on : {c : ℕ} {s : Option ℕ} {cs : List ℕ} → IsSuperOf classes c s → SuperChain classes s cs → SuperChain classes (Some c) (c ∷ cs)
