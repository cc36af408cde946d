-- The files of a host: what stands at each path.
use Rattle.std.specs.Prelude.{◌≡◌, ◌≢◌, ℕ, Bool, true, false, List, ◌∷◌, ◌++◌, Option, None, Some, Contains}
use Rattle.std.specs.Ordering.{nat_cmp}
use Rattle.std.specs.Cmp.Lexicographic.{slice_cmp}
use Rattle.std.specs.FinMap as map
use Rattle.slicer_ids.specs.Sets.{IsListOf}
use Rattle.edge_io.specs.declared.host.Entry.{Entry}
use Rattle.edge_io.specs.declared.host.Entry.TheVariants.{Folder, File}
use Rattle.edge_io.specs.declared.host.Item.{Item}

-- from paths, by their bytes, to what stands there
abbrev pub Files : Type 0
Files = map.FinMap (slice_cmp nat_cmp) Entry

-- a file with these bytes stands at the path
abbrev pub HasFile : Files → List ℕ → List ℕ → Type 0
HasFile m path bytes = map.get m path ≡ Some (File bytes)

-- some file stands at the path
abbrev pub IsFile : Files → List ℕ → Type 0
IsFile m path = (bytes : List ℕ) × HasFile m path bytes

-- a folder stands at the path
abbrev pub IsFolder : Files → List ℕ → Type 0
IsFolder m path = map.get m path ≡ Some Folder

-- the files with these bytes at the path, whatever stood there
abbrev pub file_set : Files → List ℕ → List ℕ → Files
file_set m path bytes = map.insert m path (File bytes)

-- what stands at each other path stays, and so does whether files are told
abbrev pub KeepsOthers : List ℕ → Option Files → Option Files → Type 0
KeepsOthers path None None = Unit {0}
KeepsOthers path None (Some n) = ⊥
KeepsOthers path (Some m) None = ⊥
KeepsOthers path (Some m) (Some n) = (q : List ℕ) → q ≢ path → map.get n q ≡ map.get m q

-- the path of what stands directly in a folder: the folder's path, a slash and the name
abbrev pub inside : List ℕ → List ℕ → List ℕ
inside folder name = folder ++ 47 ∷ name

-- the bytes have no slash
abbrev pub HasNoSlash : List ℕ → Type 0
HasNoSlash name = Contains name 47 → ⊥

abbrev pub is_folder : Entry → Bool
is_folder Folder = true
is_folder (File bytes) = false

-- the item is an entry directly in the folder
pub record IsEntryOf (m : Files) (folder : List ℕ) (i : Item) : Type 0 where
  pub there : (e : Entry) × (map.get m (inside folder i.name) ≡ Some e) × (i.folder ≡ is_folder e)
  pub direct : HasNoSlash i.name

-- the items are the entries directly in the folder, in any order, each once
abbrev pub Lists : Files → List ℕ → List Item → Type 0
Lists m folder items = IsListOf items (IsEntryOf m folder)
