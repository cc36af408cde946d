-- What was loaded is that of the program that it was said to be.
use Rattle.std.proofs.Common.{◌≡◌, ℕ, List, Option}
use Rattle.program_form.specs.Programs.{Program}
use Rattle.folder_loader.specs.Loading.{HasParts, IsLoaded}
use Rattle.folder_loader.specs.declared.parts.Loaded.{Loaded}
use Rattle.analysis.specs.Analysed.{IsOf}

pub is_of : (main : Option (List ℕ)) (l : Loaded) (p : Program) → HasParts l.hierarchy l.bodies.items l.entries p → IsLoaded main p → IsOf l p
is_of main l p parts loaded = record { parts = parts; main = main; loaded = loaded }
