-- Files in memory as a list of paths and entries.
use Rattle.std.specs.Prelude.{◌≡◌, ◌≢◌, ℕ, ◌<◌, ◌⊎◌, List, [], ◌∷◌, ◌++◌, length, All, AllPairs, Contains, slice_index_or}
use Rattle.std.specs.FinMap as map
use Rattle.std.specs.Str.{IsUtf8}
use Rattle.edge_io.specs.declared.host.Entry.{Entry}
use Rattle.edge_io.specs.declared.host.Item.{Item}
use Rattle.slicer_ids.specs.Sets.{IsListOf}
use Rattle.edge_io.specs.Files.{Files, HasNoSlash, inside, is_folder}

-- no path stands twice
abbrev pub AreOnce : List (List ℕ × Entry) → Type 0
AreOnce es = AllPairs (λ a b. a.0 ≢ b.0) es

-- no path stands twice, and each is a text
pub record ArePaths (es : List (List ℕ × Entry)) : Type 0 where
  pub once : AreOnce es
  pub texts : All (λ e. IsUtf8 e.0) es

abbrev pub files_in : List (List ℕ × Entry) → Files
files_in es = map.from_entries es

-- the path stands at this place of the list, and at none before it
pub record IsPlaceOf (es : List (List ℕ × Entry)) (path : List ℕ) (k : ℕ) : Type 0 where
  pub within : k < length es
  pub there : (d : List ℕ × Entry) → (slice_index_or es k d).0 ≡ path
  pub first : (j : ℕ) (d : List ℕ × Entry) → j < k → (slice_index_or es j d).0 ≢ path

-- the item is one of these entries, and stands directly in the folder
pub record IsItemOf (es : List (List ℕ × Entry)) (folder : List ℕ) (i : Item) : Type 0 where
  pub entry : Entry
  pub stored : Contains es (inside folder i.name, entry)
  pub kind : i.folder ≡ is_folder entry
  pub direct : HasNoSlash i.name

-- the items are those of these entries that stand directly in the folder, each once
abbrev pub ListsOf : List (List ℕ × Entry) → List ℕ → List Item → Type 0
ListsOf es folder items = IsListOf items (IsItemOf es folder)

-- the entry was added to the items where it stands directly in the folder
abbrev pub AddsEntry : List ℕ → List ℕ × Entry → List Item → List Item → Type 0
AddsEntry folder e before after =
    ((name : List ℕ) × HasNoSlash name × (e.0 ≡ inside folder name) × (after ≡ before ++ record { name = name; folder = is_folder e.1 } ∷ []))
    ⊎ (((name : List ℕ) → HasNoSlash name → e.0 ≢ inside folder name) × (after ≡ before))
