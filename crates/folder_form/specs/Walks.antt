-- The class files below a folder, in order, or the limit that is exceeded first.
use Rattle.std.specs.Prelude.{◌≡◌, ◌⊎◌, ◌<◌, ℕ, suc, List, [], ◌∷◌, ◌++◌, length, codes, false, true}
use Rattle.slicer_ids.specs.Sets.{IsOrderedListOf}
use Rattle.slicer_ids.specs.Order.{BytesBefore}
use Rattle.slicer_ids.specs.declared.limits.LimitKind.{LimitKind}
use Rattle.slicer_ids.specs.declared.limits.LimitKind.TheVariants.{Depth, Files as FileCount}
use Rattle.edge_io.specs.Files.{Files, inside, IsFolder, IsEntryOf}

-- the name of a class file
abbrev pub IsClassFileName : List ℕ → Type 0
IsClassFileName name = (stem : List ℕ) × (name ≡ stem ++ codes ".class")

-- something of this name stands directly in the folder: a folder, or a file
abbrev pub HasFolder : Files → List ℕ → List ℕ → Type 0
HasFolder m folder name = IsEntryOf m folder (record { name = name; folder = true })

abbrev pub HasFileNamed : Files → List ℕ → List ℕ → Type 0
HasFileNamed m folder name = IsEntryOf m folder (record { name = name; folder = false })

abbrev pub IsNameIn : Files → List ℕ → List ℕ → Type 0
IsNameIn m folder name = HasFolder m folder name ⊎ HasFileNamed m folder name

-- the paths of class files that were found, or a limit and what is counted
pub data Walked : Type 0 where
  Found : (paths : List (List ℕ)) → Walked
  TooMany : (kind : LimitKind) → (count : ℕ) → Walked

-- a walk of a folder at a depth, which goes on from the class files that were found before: the entries are taken in the order of their
-- names' bytes, and a folder is walked in its place. It ends at the first folder that is too deep, and at the first class file too many
mutual
  pub data Walks (m : Files) : ℕ → List ℕ → List (List ℕ) → Walked → Type 0 where
    walks : {depth : ℕ} {folder : List ℕ} {names before : List (List ℕ)} {end : Walked} → IsOrderedListOf BytesBefore names (IsNameIn m folder) →
        WalksEach m depth folder names before end → Walks m depth folder before end

  pub data WalksEach (m : Files) : ℕ → List ℕ → List (List ℕ) → List (List ℕ) → Walked → Type 0 where
    none : {depth : ℕ} {folder : List ℕ} {before : List (List ℕ)} → WalksEach m depth folder [] before (Found before)
    class_file : {depth : ℕ} {folder name : List ℕ} {names before : List (List ℕ)} {end : Walked} → HasFileNamed m folder name → IsClassFileName name →
        length before < 16384 → WalksEach m depth folder names (before ++ inside folder name ∷ []) end → WalksEach m depth folder (name ∷ names) before end
    too_many : {depth : ℕ} {folder name : List ℕ} {names before : List (List ℕ)} → HasFileNamed m folder name → IsClassFileName name →
        (length before < 16384 → ⊥) → WalksEach m depth folder (name ∷ names) before (TooMany FileCount 16385)
    other_file : {depth : ℕ} {folder name : List ℕ} {names before : List (List ℕ)} {end : Walked} → HasFileNamed m folder name → (IsClassFileName name → ⊥) →
        WalksEach m depth folder names before end → WalksEach m depth folder (name ∷ names) before end
    folder_below : {depth : ℕ} {folder name : List ℕ} {names before more : List (List ℕ)} {end : Walked} → HasFolder m folder name → depth < 64 →
        Walks m (suc depth) (inside folder name) before (Found more) → WalksEach m depth folder names more end → WalksEach m depth folder (name ∷ names) before end
    ends_below : {depth : ℕ} {folder name : List ℕ} {names before : List (List ℕ)} {kind : LimitKind} {count : ℕ} → HasFolder m folder name → depth < 64 →
        Walks m (suc depth) (inside folder name) before (TooMany kind count) → WalksEach m depth folder (name ∷ names) before (TooMany kind count)
    too_deep : {depth : ℕ} {folder name : List ℕ} {names before : List (List ℕ)} → HasFolder m folder name → (depth < 64 → ⊥) →
        WalksEach m depth folder (name ∷ names) before (TooMany Depth 65)

-- the class files of a folder that is read; what is no folder has no walk
abbrev pub WalksFolder : Files → List ℕ → Walked → Type 0
WalksFolder m folder end = IsFolder m folder × Walks m 0 folder [] end
