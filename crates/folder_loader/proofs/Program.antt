-- The program of a hierarchy, with its numbers, bodies and entries.
use Rattle.std.proofs.Common.{◌≡◌, ℕ, List, Option, refl}
use Rattle.std.specs.Prelude.{All}
use Rattle.class_form.specs.Classes.{Declared}
use Rattle.class_form.specs.Numbers.{AreMethods, AreFields}
use Rattle.class_form.specs.ClassRules.{IsClassFile}
use Rattle.class_form.specs.declared.class_file.ClassFile.{ClassFile}
use Rattle.class_form.specs.declared.body.Body.{Body}
use Rattle.dep_form.specs.declared.rules.Entry.{Entry}
use Rattle.program_form.specs.Programs.{Program}
use Rattle.call_graph.specs.Entries.{AreEntries}
use Rattle.class_loader.specs.Sound.{IsSoundClass, AreBodiesOf}
use Rattle.folder_loader.specs.Loading.{HasParts, IsLoaded}

pub loaded_program : (classes : List ClassFile) (main : Option (List ℕ)) (methods fields : List Declared) (bodies : List Body) (entries : List Entry) → All IsSoundClass classes
    → AreMethods classes methods → AreFields classes fields → AreBodiesOf classes bodies → AreEntries classes main entries
    → (p : Program) × HasParts classes bodies entries p × IsLoaded main p
loaded_program classes main methods fields bodies entries sound are numbered coded entered =
    let p : Program = record { classes = classes; methods = methods; fields = fields; bodies = bodies; entries = entries } in (
      p,
      record { classes_are = refl; bodies_are = refl; entries_are = refl },
      record { files = λ k d lt. (sound k d lt).0; code = coded p refl are numbered refl; entries = entered },
    )
