-- What the classes of a hierarchy keep.
use Rattle.std.specs.Prelude.{◌≡◌, ◌<◌, ◌+◌, ◌^◌, ◌↔◌, ℕ, List, length, All, sum_by, slice_get, Some}
use Rattle.std.specs.Global.{Vec}
use Rattle.class_form.specs.Classes.{AreInOrder, IsSub, Declared, IsClass, IsDeclared, IsPrivate, IsStatic}
use Rattle.class_form.specs.Numbers.{IsNamedClass}
use Rattle.class_form.specs.Folders.{AreAcyclic}
use Rattle.class_form.specs.declared.class_file.ClassFile.{ClassFile}
use Rattle.class_form.specs.declared.class_file.Member.{Member}
use Rattle.digraph.specs.Rows.{HasBit}
use Rattle.hierarchy.specs.declared.parents.Above.TheVariants.{Interfaces, Parents}
use Rattle.hierarchy.specs.declared.members.Kind.TheVariants.{Field, Method}
use Rattle.hierarchy.specs.declared.look_up.Tree.{Tree}
use Rattle.hierarchy.specs.declared.look_up.Wanted.{Wanted}
use Rattle.hierarchy.specs.declared.look_up.Wanted.TheVariants.{Declaration, Instance}
use Rattle.hierarchy.specs.Names.{IsByName, AreEdges}
use Rattle.hierarchy.specs.Numbered.{AreMembers}
use Rattle.hierarchy.specs.Places.{Declares}
use Rattle.hierarchy.specs.Searched.{IsSearched}

-- classes with names, in order
pub record AreOrdered (classes : List ClassFile) : Type 0 where
  pub few : length classes < 2 ^ 32
  pub named : All IsNamedClass classes
  pub sorted : IsByName classes
  pub order : AreInOrder classes

-- classes, fields and methods are together fewer than 2 ^ 32 - 3
abbrev pub AreFew : List ClassFile → Type 0
AreFew classes = length classes + sum_by (λ k. length k.fields + length k.methods) classes + 3 < 2 ^ 32

-- for each class a row of bits: the class itself, its superclasses and interfaces, and those above them
pub record AreSubRows (classes : List ClassFile) (rows : List (Vec ℕ)) : Type 0 where
  pub len : length rows ≡ length classes
  pub each : (a : ℕ) (b : ℕ) (row : Vec ℕ) → slice_get rows a ≡ Some row → b < length classes → HasBit row.items b ↔ IsSub classes a b

-- classes of which none is its own ancestor, with what is kept for searches
pub record IsTree (tree : Tree) : Type 0 where
  pub ordered : AreOrdered tree.classes.items
  pub acyclic : AreAcyclic tree.classes.items
  pub subs : AreSubRows tree.classes.items tree.parents.rows.items
  pub parent_edges : AreEdges Parents tree.classes.items tree.parents.edges.items
  pub interface_edges : AreEdges Interfaces tree.classes.items tree.interfaces.edges.items
  pub parent_search : IsSearched tree.parents tree.order.items
  pub interface_search : IsSearched tree.interfaces tree.order.items
  pub fields_are : AreMembers Field tree.classes.items tree.fields
  pub methods_are : AreMembers Method tree.classes.items tree.methods

-- the method is looked for: any of the name and descriptor, or one that is neither private nor static
abbrev pub Fits : Wanted → List ClassFile → List ℕ → List ℕ → Declared → Type 0
Fits Declaration classes name descriptor d = Declares Method classes name descriptor d
Fits Instance classes name descriptor d =
    (k : ClassFile) × (m : Member) × IsClass classes d.class k × IsDeclared k k.methods name descriptor d.index m
    × (IsPrivate m.flags → ⊥) × (IsStatic m.flags → ⊥)
