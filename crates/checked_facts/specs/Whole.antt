-- When parts fit together.
use Rattle.std.specs.Prelude.{◌≡◌, ◌<◌, ◌≤◌, ◌^◌, ℕ, suc, List, All, AllPairs, length}
use Rattle.slicer_ids.specs.declared.ids.NodeId.{NodeId}
use Rattle.dep_form.specs.declared.node.Edge.{Edge}
use Rattle.dep_form.specs.declared.facts.Facts.{Facts}
use Rattle.dep_form.specs.Graphs.{HasInput}
use Rattle.dep_form.specs.Making.{IsMadeOf}
use Rattle.dep_form.specs.WithinFacts.{AreFacts, NodeBefore}
use Rattle.checked_facts.specs.Checks.{AreAllListed, AreExits, EndsFit, FitsHere}
use Rattle.checked_facts.specs.Parts.{IsAccessWithin, IsLineWithin, IsOfClass, IsPlaced, IsValueWithin}
use Rattle.checked_facts.specs.Rising.{AccessBefore, LineBefore, NameBefore, TextBefore, ValueBefore}
use Rattle.checked_facts.specs.declared.facts.Parts.{Parts}

pub record AreCounted (p : Parts) (nodes : ℕ) : Type 0 where
  pub nodes_few : nodes ≤ 2 ^ 24
  pub inputs_few : length p.inputs < 2 ^ 32
  pub exits_few : length p.exits < 2 ^ 32
  pub classes_few : length p.classes < 2 ^ 32
  pub root : length p.inputs ≡ suc (length p.methods)
  pub with_root : HasInput p.inputs (record { 0 = length p.methods })

pub record AreInOrder (p : Parts) : Type 0 where
  pub of_classes : AllPairs NameBefore p.classes
  pub of_methods : AllPairs TextBefore p.methods
  pub of_lines : AllPairs LineBefore p.lines
  pub of_accesses : AllPairs AccessBefore p.accesses
  pub of_values : AllPairs ValueBefore p.values

pub record AreListsWithin (p : Parts) (nodes : ℕ) : Type 0 where
  pub of_methods : All (IsOfClass (length p.classes)) p.methods
  pub of_sites : All (IsPlaced (length p.methods)) p.sites
  pub of_lines : All (IsLineWithin (length p.classes) (length p.methods)) p.lines
  pub of_accesses : All (IsAccessWithin nodes (length p.methods) (length p.sites)) p.accesses
  pub of_values : All (IsValueWithin (length p.methods) (length p.sites)) p.values

pub record AreExitsRight (p : Parts) : Type 0 where
  pub each : AreExits p.inputs p.exits
  pub whole : AreAllListed p.inputs p.exits
  pub order : AllPairs NodeBefore p.exits

pub record AreEdgesRight (p : Parts) (edges : List Edge) : Type 0 where
  pub fit : All (FitsHere p.inputs p.accesses) edges
  pub callers : All (EndsFit p.inputs edges) edges

-- what facts keep holds of the parts
abbrev pub AreFactsOf : Parts → Type 0
AreFactsOf p = AreFacts p.inputs p.exits p.classes p.methods p.sites p.lines p.accesses p.values

-- the facts are made of the parts
abbrev pub IsOfParts : Parts → Facts → Type 0
IsOfParts p f = IsMadeOf p.inputs p.exits p.classes p.methods p.sites p.lines p.accesses p.values f
