-- What a finder of slices keeps.
use Rattle.std.specs.Prelude.{◌≡◌, ◌≤◌, List, vec_capacity}
use Rattle.slicer_ids.specs.declared.ids.Statement.{Statement}
use Rattle.dep_form.specs.declared.facts.Facts.{Facts}
use Rattle.dep_form.specs.Firsts.{node_count}
use Rattle.thin_slice.specs.Walks.{IsWalkOf}
use Rattle.session_slices.specs.declared.finder.SliceFinder.{SliceFinder}

-- its walk is one of the facts, and it has room for all nodes and a statement of each
pub record IsFinderOf (f : Facts) (x : SliceFinder) : Type 0 where
  pub walk : IsWalkOf f x.walk
  pub size : x.size ≡ node_count f.inputs
  pub nodes : node_count f.inputs ≤ vec_capacity x.nodes
  pub statements : node_count f.inputs ≤ vec_capacity x.found

-- the statements that were found last
abbrev pub statements_in : SliceFinder → List Statement
statements_in x = x.found.items
