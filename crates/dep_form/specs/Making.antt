-- When facts are made of their parts.
use Rattle.std.specs.Prelude.{◌≡◌, ℕ, List, length, take, slice_get, Option, Some}
use Rattle.slicer_ids.specs.declared.ids.NodeId.{NodeId}
use Rattle.slicer_ids.specs.declared.ids.ClassId.{ClassId}
use Rattle.slicer_ids.specs.declared.ids.SiteId.{SiteId}
use Rattle.slicer_ids.specs.declared.ids.Statement.{Statement}
use Rattle.dep_form.specs.declared.input.MethodInput.{MethodInput}
use Rattle.dep_form.specs.declared.access.Access.{Access}
use Rattle.dep_form.specs.declared.texts.MethodText.{MethodText}
use Rattle.dep_form.specs.declared.texts.SiteName.{SiteName}
use Rattle.dep_form.specs.declared.facts.Facts.{Facts}
use Rattle.dep_form.specs.Firsts.{node_count}

-- the facts have these parts
pub record IsMadeOf (inputs : List (Option MethodInput)) (exits : List NodeId) (classes : List (List ℕ)) (methods : List MethodText) (sites : List SiteName) (lines : List (ClassId × ℕ × List Statement)) (accesses : List (Statement × Access)) (values : List (Statement × List SiteId)) (f : Facts) : Type 0 where
  pub inputs_are : f.inputs ≡ inputs
  pub exits_are : f.exits ≡ exits
  pub classes_are : f.classes ≡ classes
  pub methods_are : f.methods ≡ methods
  pub sites_are : f.sites ≡ sites
  pub lines_are : f.lines ≡ lines
  pub accesses_are : f.accesses ≡ accesses
  pub values_are : f.values ≡ values

-- for each method the count of the nodes before its own
pub record AreFirsts (inputs : List (Option MethodInput)) (firsts : List ℕ) : Type 0 where
  pub each : length firsts ≡ length inputs
  pub are : (m n : ℕ) → slice_get firsts m ≡ Some n → n ≡ node_count (take m inputs)
