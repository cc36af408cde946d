-- The reading of files, one after another.
use Rattle.std.proofs.Common.{◌≡◌, ◌<◌, ◌≤◌, ◌+◌, ℕ, List, [], ◌∷◌, ◌++◌, get_or, drop, length, All, IfSome, Option, Some, None, sym, ap, subst, ◌∙◌, append_assoc, append-nil, arith}
use Rattle.std.proofs.lemmas.List.{drop_more}
use Rattle.slicer_ids.specs.declared.limits.LimitKind.{LimitKind}
use Rattle.slicer_ids.specs.declared.limits.LimitKind.TheVariants.{FileBytes, TotalBytes}
use Rattle.edge_io.specs.Files.{Files, HasFile, IsFile}
use Rattle.folder_form.specs.Reading.{Read, Contents, TooLong, Reads, none, file, later, too_long, too_many}
use Rattle.folder_reader.specs.Turns.{IsTooLong, alone, together}

-- the reading of the files from a place on leads to that of all of them
abbrev pub Leads : Files → List (List ℕ) → List (List ℕ) → ℕ → List (List ℕ) → Type 0
Leads m paths rest total before =
    ((after : List (List ℕ)) → Reads m total rest (Contents after) → Reads m 0 paths (Contents (before ++ after)))
    × ((kind : LimitKind) (count : ℕ) → Reads m total rest (TooLong kind count) → Reads m 0 paths (TooLong kind count))

abbrev pub SoFar : Option Files → List (List ℕ) → ℕ → ℕ → List (List ℕ) → Type 0
SoFar files paths index total before = IfSome files (λ m. Leads m paths (drop index paths) total before)

pub at_first : (files : Option Files) (paths : List (List ℕ)) → SoFar files paths 0 0 []
at_first None paths = tt
at_first (Some m) paths = (λ after r. r, λ kind count r. r)

module _ (m : Files) (paths : List (List ℕ)) (index : ℕ) (path : List ℕ) (there : (d : List ℕ) → get_or paths index d ≡ path) (within : index < length paths) where
  rest_of : drop index paths ≡ path ∷ drop (index + 1) paths
  rest_of = drop_more paths index path within ∙ ap (λ p. p ∷ drop (index + 1) paths) (there path)

  on : (total : ℕ) (end : Read) → Reads m total (path ∷ drop (index + 1) paths) end → Reads m total (drop index paths) end
  on total end r = subst (λ ps. Reads m total ps end) (sym rest_of) r

  goes : (total : ℕ) (before : List (List ℕ)) (bytes : List ℕ) → HasFile m path bytes → length bytes ≤ 16777216 → total + length bytes ≤ 67108864 → Leads m paths (drop index paths) total before
      → Leads m paths (drop (index + 1) paths) (total + length bytes) (before ++ bytes ∷ [])
  goes total before bytes has small room leads = (
    λ after r. subst (λ xs. Reads m 0 paths (Contents xs)) (sym (append_assoc before (bytes ∷ []) after)) (leads.0 (bytes ∷ after) (on total (Contents (bytes ∷ after)) (file has small room r))),
    λ kind count r. leads.1 kind count (on total (TooLong kind count) (later has small room r)),
  )

  limit : (total : ℕ) {kind : LimitKind} {count : ℕ} → IsTooLong m path total kind count → Reads m total (path ∷ drop (index + 1) paths) (TooLong kind count)
  limit total (alone has long) = too_long has long
  limit total (together has small many) = too_many has small many

  ends : (total : ℕ) (before : List (List ℕ)) (kind : LimitKind) (count : ℕ) → Leads m paths (drop index paths) total before → IsTooLong m path total kind count → Reads m 0 paths (TooLong kind count)
  ends total before kind count leads t = leads.1 kind count (on total (TooLong kind count) (limit total t))

module _ (files now : Option Files) (paths : List (List ℕ)) (index : ℕ) (path : List ℕ) (there : (d : List ℕ) → get_or paths index d ≡ path) (within : index < length paths) (same : now ≡ files) where
  pub turn : (total : ℕ) (before : List (List ℕ)) (bytes : List ℕ) (more : ℕ) (after : List (List ℕ)) → SoFar files paths index total before → IfSome now (λ m. HasFile m path bytes)
      → length bytes ≤ 16777216 → more ≡ total + length bytes → more ≤ 67108864 → after ≡ before ++ bytes ∷ [] → SoFar files paths (index + 1) more after
  turn total before bytes more after so has small is room e =
      subst (λ n. SoFar files paths (index + 1) n after) (sym is)
      (subst (λ xs. SoFar files paths (index + 1) (total + length bytes) xs) (sym e)
      (by_files files so (subst (λ (o : Option Files). IfSome o (λ (m : Files). HasFile m path bytes)) same has)))
    where
      by_files : (o : Option Files) → SoFar o paths index total before → IfSome o (λ m. HasFile m path bytes) → SoFar o paths (index + 1) (total + length bytes) (before ++ bytes ∷ [])
      by_files None s h = tt
      by_files (Some m) s h = goes m paths index path there within total before bytes h small (omega (arith, is, room)) s

  pub ended : (total : ℕ) (before : List (List ℕ)) (kind : LimitKind) (count : ℕ) → SoFar files paths index total before → IfSome now (λ m. IsTooLong m path total kind count)
      → IfSome files (λ m. Reads m 0 paths (TooLong kind count))
  ended total before kind count so long = by_files files so (subst (λ (o : Option Files). IfSome o (λ (m : Files). IsTooLong m path total kind count)) same long)
    where
      by_files : (o : Option Files) → SoFar o paths index total before → IfSome o (λ m. IsTooLong m path total kind count) → IfSome o (λ m. Reads m 0 paths (TooLong kind count))
      by_files None s l = tt
      by_files (Some m) s l = ends m paths index path there within total before kind count s l

  pub there_is : IfSome now (λ m. IsFile m path → ⊥) → IfSome files (λ m. All (IsFile m) paths → ⊥)
  there_is gone = by_files files (subst (λ (o : Option Files). IfSome o (λ (m : Files). IsFile m path → ⊥)) same gone)
    where
      by_files : (o : Option Files) → IfSome o (λ m. IsFile m path → ⊥) → IfSome o (λ m. All (IsFile m) paths → ⊥)
      by_files None n = tt
      by_files (Some m) n = λ all. n (subst (IsFile m) (there path) (all index path within))

pub at_last : (files : Option Files) (paths : List (List ℕ)) (index total : ℕ) (before : List (List ℕ)) → drop index paths ≡ [] → SoFar files paths index total before → IfSome files (λ m. Reads m 0 paths (Contents before))
at_last None paths index total before over so = tt
at_last (Some m) paths index total before over so =
    subst (λ xs. Reads m 0 paths (Contents xs)) (append-nil before) (so.0 [] (subst (λ ps. Reads m total ps (Contents [])) (sym over) none))

-- a file that is too long is told where files are
pub long_alone : (files : Option Files) (path : List ℕ) (total : ℕ) (kind : LimitKind) (count : ℕ) → kind ≡ FileBytes → count ≡ 16777217 → IfSome files (λ m. (bytes : List ℕ) × HasFile m path bytes × (16777216 < length bytes))
    → IfSome files (λ m. IsTooLong m path total kind count)
long_alone None path total kind count e f h = tt
long_alone (Some m) path total kind count e f h =
    subst (λ k. IsTooLong m path total k count) (sym e) (subst (λ n. IsTooLong m path total FileBytes n) (sym f) (alone h.1 h.2))

pub long_together : (files : Option Files) (path bytes : List ℕ) (total after : ℕ) (kind : LimitKind) (count : ℕ) → TotalBytes ≡ kind → after ≡ count → after ≡ total + length bytes → IfSome files (λ m. HasFile m path bytes)
    → length bytes ≤ 16777216 → 67108864 < after → IfSome files (λ m. IsTooLong m path total kind count)
long_together None path bytes total after kind count e f sum h small many = tt
long_together (Some m) path bytes total after kind count e f sum h small many =
    subst (λ k. IsTooLong m path total k count) e (subst (λ n. IsTooLong m path total TotalBytes n) (sym sum ∙ f) (together h small (omega (arith, many, sum))))
