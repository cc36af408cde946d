-- What is done with the file at a place. Private: no public clause cites this.
use Rattle.std.specs.Prelude.{◌≡◌, ℕ, List, [], ◌∷◌, ◌++◌, Some, slice_get}
use Rattle.edge_io.specs.Files.{inside}
use Rattle.class_form.specs.declared.class_file.ClassFile.{ClassFile}
use Rattle.body_rules.specs.Methods.{IsSound}
use Rattle.body_rules.specs.Refused.{Refuses}

-- the class of the file, which is sound, is added
abbrev pub AddsClass : List (List ℕ) → ℕ → List ClassFile → List ClassFile → Type 0
AddsClass contents place before after =
    (bytes : List ℕ) × (c : ClassFile) × (slice_get contents place ≡ Some bytes) × IsSound bytes c × (after ≡ before ++ c ∷ [])

-- the file is refused with the line, which names it by its path below the folder
abbrev pub IsRefusedFile : List ℕ → List (List ℕ) → List (List ℕ) → ℕ → List ℕ → Type 0
IsRefusedFile folder paths contents place line =
    (below : List ℕ) × (bytes : List ℕ) × (slice_get paths place ≡ Some (inside folder below)) × (slice_get contents place ≡ Some bytes)
    × Refuses below bytes line
