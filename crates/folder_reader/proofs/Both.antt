-- A folder that is walked, and then read.
use Rattle.std.proofs.Common.{◌≡◌, ℕ, List, All, IfSome, Option, Some, None, inl, inr, subst}
use Rattle.slicer_ids.specs.declared.limits.LimitKind.{LimitKind}
use Rattle.edge_io.specs.Files.{Files, IsFile, IsFolder}
use Rattle.folder_form.specs.Walks.{WalksFolder, Found, TooMany}
use Rattle.folder_form.specs.Reading.{ReadsAll, Contents, TooLong}
use Rattle.folder_reader.specs.Folders.{ExceedsLimit}
use Rattle.folder_reader.proofs.Found.{found_files}

pub walk_limit : (files : Option Files) (folder : List ℕ) (kind : LimitKind) (count : ℕ) → IfSome files (λ m. WalksFolder m folder (TooMany kind count)) → IfSome files (λ m. ExceedsLimit m folder kind count)
walk_limit None folder kind count h = tt
walk_limit (Some m) folder kind count h = inl h

module _ (files later : Option Files) (folder : List ℕ) (paths read : List (List ℕ)) (same : later ≡ files) (are : read ≡ paths) where
  moved : (P : Files → List (List ℕ) → Type 0) → IfSome later (λ m. P m read) → IfSome files (λ m. P m paths)
  moved P h = subst (λ ps. IfSome files (λ m. P m ps)) are (subst (λ (o : Option Files). IfSome o (λ m. P m read)) same h)

  pub reading_told : (contents : List (List ℕ)) → IfSome later (λ m. ReadsAll m read (Contents contents)) → IfSome files (λ m. ReadsAll m paths (Contents contents))
  reading_told contents h = moved (λ m ps. ReadsAll m ps (Contents contents)) h

  pub reading_limit : (kind : LimitKind) (count : ℕ) → IfSome files (λ m. WalksFolder m folder (Found paths)) → IfSome later (λ m. ReadsAll m read (TooLong kind count))
      → IfSome files (λ m. ExceedsLimit m folder kind count)
  reading_limit kind count walk long = by_files files walk (moved (λ m ps. ReadsAll m ps (TooLong kind count)) long)
    where
      by_files : (o : Option Files) → IfSome o (λ m. WalksFolder m folder (Found paths)) → IfSome o (λ m. ReadsAll m paths (TooLong kind count)) → IfSome o (λ m. ExceedsLimit m folder kind count)
      by_files None w r = tt
      by_files (Some m) w r = inr (paths, w, r)

  pub no_gap : IfSome files (λ m. WalksFolder m folder (Found paths)) → IfSome later (λ m. All (IsFile m) read → ⊥) → IfSome files (λ m. IsFolder m folder → ⊥)
  no_gap walk gone = by_files files walk (moved (λ m ps. All (IsFile m) ps → ⊥) gone)
    where
      by_files : (o : Option Files) → IfSome o (λ m. WalksFolder m folder (Found paths)) → IfSome o (λ m. All (IsFile m) paths → ⊥) → IfSome o (λ m. IsFolder m folder → ⊥)
      by_files None w n = tt
      by_files (Some m) w n = λ _. n (found_files m folder paths w.1)
