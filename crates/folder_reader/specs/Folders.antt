-- Which limit the class files of a folder exceed first.
use Rattle.std.specs.Prelude.{◌⊎◌, ℕ, List}
use Rattle.slicer_ids.specs.declared.limits.LimitKind.{LimitKind}
use Rattle.edge_io.specs.Files.{Files}
use Rattle.folder_form.specs.Walks.{WalksFolder, Found, TooMany}
use Rattle.folder_form.specs.Reading.{ReadsAll, TooLong}

-- that of the walk, or that of the reading of what a walk finds that exceeds none
abbrev pub ExceedsLimit : Files → List ℕ → LimitKind → ℕ → Type 0
ExceedsLimit m folder kind count =
    WalksFolder m folder (TooMany kind count) ⊎ ((paths : List (List ℕ)) × WalksFolder m folder (Found paths) × ReadsAll m paths (TooLong kind count))
