-- The turns of a walk and of a reading. Private: no public clause cites this.
use Rattle.std.specs.Prelude.{◌≡◌, ◌⊎◌, ◌<◌, ◌≤◌, ◌+◌, ℕ, List, [], ◌∷◌, ◌++◌, All, length, map}
use Rattle.slicer_ids.specs.Sets.{IsOrderedListOf}
use Rattle.slicer_ids.specs.Order.{BytesBefore}
use Rattle.slicer_ids.specs.declared.limits.LimitKind.{LimitKind}
use Rattle.slicer_ids.specs.declared.limits.LimitKind.TheVariants.{Files as FileCount, FileBytes, TotalBytes}
use Rattle.edge_io.specs.declared.host.Item.{Item}
use Rattle.edge_io.specs.Files.{Files, HasFile, IsFolder, IsEntryOf, inside}
use Rattle.folder_form.specs.Walks.{IsNameIn, IsClassFileName, Walked, Walks, WalksEach}

abbrev pub name_of : Item → List ℕ
name_of i = i.name

-- the entries directly in a folder, in the order of their names
pub record AreEntries (m : Files) (folder : List ℕ) (items : List Item) : Type 0 where
  pub entries : All (IsEntryOf m folder) items
  pub ordered : IsOrderedListOf BytesBefore (map name_of items) (IsNameIn m folder)

-- the walk of what stands as a folder at a depth
abbrev pub WalksTo : Files → ℕ → List ℕ → List (List ℕ) → Walked → Type 0
WalksTo m depth folder before end = IsFolder m folder × Walks m depth folder before end

-- an entry comes before others, and the walk goes on from what was found so far; or it ends the walk
abbrev pub GoesOn : Files → ℕ → List ℕ → Item → List (List ℕ) → List (List ℕ) → Type 0
GoesOn m depth folder item before after =
    IsEntryOf m folder item → (names : List (List ℕ)) (end : Walked) → WalksEach m depth folder names after end → WalksEach m depth folder (item.name ∷ names) before end

abbrev pub EndsAt : Files → ℕ → List ℕ → Item → List (List ℕ) → Walked → Type 0
EndsAt m depth folder item before end = IsEntryOf m folder item → (names : List (List ℕ)) → WalksEach m depth folder (item.name ∷ names) before end

-- the walk of the entries from a place on leads to the walk of all of them
abbrev pub Leads : Files → ℕ → List ℕ → List (List ℕ) → List (List ℕ) → List (List ℕ) → List (List ℕ) → Type 0
Leads m depth folder names before rest after = (end : Walked) → WalksEach m depth folder rest after end → WalksEach m depth folder names before end

-- the file of this name is added where it is a class file, and there is room
abbrev pub AddsFile : List ℕ → List ℕ → List (List ℕ) → List (List ℕ) → Type 0
AddsFile folder name before after =
    (IsClassFileName name × (length before < 16384) × (after ≡ before ++ inside folder name ∷ [])) ⊎ ((IsClassFileName name → ⊥) × (after ≡ before))

-- .. and where there is none
pub record IsFileTooMany (name : List ℕ) (before : List (List ℕ)) (kind : LimitKind) (count : ℕ) : Type 0 where
  pub class_file : IsClassFileName name
  pub full : length before < 16384 → ⊥
  pub counted : (kind ≡ FileCount) × (count ≡ 16385)

-- the file is too long by itself, or with so many bytes of others
pub data IsTooLong (m : Files) (path : List ℕ) (total : ℕ) : LimitKind → ℕ → Type 0 where
  alone : {bytes : List ℕ} → HasFile m path bytes → 16777216 < length bytes → IsTooLong m path total FileBytes 16777217
  together : {bytes : List ℕ} → HasFile m path bytes → length bytes ≤ 16777216 → 67108864 < total + length bytes → IsTooLong m path total TotalBytes (total + length bytes)
