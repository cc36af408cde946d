-- What class files have, or the limit that is exceeded first.
use Rattle.std.specs.Prelude.{◌+◌, ◌<◌, ◌≤◌, ℕ, List, [], ◌∷◌, length}
use Rattle.slicer_ids.specs.declared.limits.LimitKind.{LimitKind}
use Rattle.slicer_ids.specs.declared.limits.LimitKind.TheVariants.{FileBytes, TotalBytes}
use Rattle.edge_io.specs.Files.{Files, HasFile}

-- the files' bytes, or a limit and what is counted
pub data Read : Type 0 where
  Contents : (contents : List (List ℕ)) → Read
  TooLong : (kind : LimitKind) → (count : ℕ) → Read

-- the bytes of files, in order, after so many bytes of others. It ends at the first file that is too long by itself, or with those
-- before it
pub data Reads (m : Files) : ℕ → List (List ℕ) → Read → Type 0 where
  none : {total : ℕ} → Reads m total [] (Contents [])
  file : {total : ℕ} {path bytes : List ℕ} {paths rest : List (List ℕ)} → HasFile m path bytes → length bytes ≤ 16777216 →
      total + length bytes ≤ 67108864 → Reads m (total + length bytes) paths (Contents rest) → Reads m total (path ∷ paths) (Contents (bytes ∷ rest))
  later : {total : ℕ} {path bytes : List ℕ} {paths : List (List ℕ)} {kind : LimitKind} {count : ℕ} → HasFile m path bytes → length bytes ≤ 16777216 →
      total + length bytes ≤ 67108864 → Reads m (total + length bytes) paths (TooLong kind count) → Reads m total (path ∷ paths) (TooLong kind count)
  too_long : {total : ℕ} {path bytes : List ℕ} {paths : List (List ℕ)} → HasFile m path bytes → 16777216 < length bytes →
      Reads m total (path ∷ paths) (TooLong FileBytes 16777217)
  too_many : {total : ℕ} {path bytes : List ℕ} {paths : List (List ℕ)} → HasFile m path bytes → length bytes ≤ 16777216 →
      67108864 < total + length bytes → Reads m total (path ∷ paths) (TooLong TotalBytes (total + length bytes))

abbrev pub ReadsAll : Files → List (List ℕ) → Read → Type 0
ReadsAll m paths end = Reads m 0 paths end
