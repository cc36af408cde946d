-- Paths below a folder.
use Rattle.std.specs.Prelude.{◌≡◌, ◌⊎◌, ℕ, List}
use Rattle.edge_io.specs.Files.{inside}

-- the path is the folder's path, a slash and a path below the folder
abbrev pub IsBelow : List ℕ → List ℕ → Type 0
IsBelow folder path = (below : List ℕ) × (path ≡ inside folder below)

-- .. or the folder's own
abbrev pub IsAtOrBelow : List ℕ → List ℕ → Type 0
IsAtOrBelow folder path = (path ≡ folder) ⊎ IsBelow folder path
