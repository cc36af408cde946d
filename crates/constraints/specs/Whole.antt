-- What the tables of a program are made from.
use Rattle.std.specs.Prelude.{◌≡◌, ◌<◌, ◌≤◌, ◌+◌, ◌^◌, List, AllPairs, map, length}
use Rattle.slicer_ids.specs.Sets.{IsOrderedListOf}
use Rattle.slicer_ids.specs.declared.ids.MethodId.{MethodId}
use Rattle.class_form.specs.declared.class_file.ClassFile.{ClassFile}
use Rattle.class_form.specs.declared.body.Body.{Body}
use Rattle.program_form.specs.Programs.{Program}
use Rattle.program_form.specs.Systems.{ForeignBefore}
use Rattle.constraint_form.specs.ConstraintSystems.{AreTypes}
use Rattle.signature_tables.specs.Pairs.{ClassesBefore}
use Rattle.signature_tables.specs.Programs.{IsOfClasses}
use Rattle.signature_tables.specs.Selections.{ChoiceBefore}
use Rattle.signature_tables.specs.Statements.{ProgramNames}
use Rattle.signature_tables.specs.TextPairs.{pair_of}
use Rattle.signature_tables.specs.declared.type_tables.TypeTables.{TypeTables}
use Rattle.signature_tables.specs.declared.texts.Texts.{Texts}
use Rattle.signature_tables.specs.declared.wanted.Wanted.{Wanted}
use Rattle.signature_tables.specs.declared.wanted.Wanted.TheVariants.{Signatures, ForeignStatics}
use Rattle.site_tables.specs.Tables.{IsTableOf}
use Rattle.variable_tables.specs.Tables.{AreTables}
use Rattle.constraint_rules.specs.Settings.{AreInitializers}
use Rattle.constraint_rules.specs.declared.tables.Tables.{Tables}

-- the number is that of the root, and there are not too many methods
abbrev pub IsRoot : List ClassFile → MethodId → Type 0
IsRoot classes m = (p : Program) → IsOfClasses classes p → (m.0 ≡ length p.methods) × (length p.methods ≤ 2 ^ 16)

-- all names and descriptors that statements name and that are looked for, in order
pub record AreTextsOf (wanted : Wanted) (classes : List ClassFile) (bodies : List Body) (texts : List Texts) : Type 0 where
  pub few : length texts < 2 ^ 32
  pub listed : (p : Program) → IsOfClasses classes p → p.bodies ≡ bodies → IsOrderedListOf ForeignBefore (map pair_of texts) (ProgramNames wanted p)

-- the tables are those of the programs with these bodies
pub record AreTabled (t : Tables) (bodies : List Body) : Type 0 where
  pub variables : (p : Program) → IsOfClasses t.h.now p → p.bodies ≡ bodies → AreTables p (length t.foreign.now) t.variables.now
  pub sites : IsTableOf t.h.now bodies t.sites.now
  pub signatures : AreTextsOf Signatures t.h.now bodies t.signatures.now
  pub foreign : AreTextsOf ForeignStatics t.h.now bodies t.foreign.now
  pub initializers : (p : Program) → IsOfClasses t.h.now p → AreInitializers p t.initializers.now
  pub fields : (p : Program) → IsOfClasses t.h.now p → t.fields ≡ length p.fields + 3

-- what is kept of classes is right for these programs, and in order
pub record AreTypesOf (classes : List ClassFile) (bodies : List Body) (types : TypeTables) : Type 0 where
  pub each : (p : Program) → IsOfClasses classes p → p.bodies ≡ bodies → AreTypes p types.subclasses types.selects
  pub subclasses : AllPairs ClassesBefore types.subclasses
  pub selects : AllPairs ChoiceBefore types.selects
