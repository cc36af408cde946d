-- The statements that commands name, and why there is none.
use Rattle.std.specs.Prelude.{◌≡◌, ℕ, List, []}
use Rattle.slicer_ids.specs.declared.ids.ClassId.{ClassId}
use Rattle.slicer_ids.specs.declared.ids.MethodId.{MethodId}
use Rattle.slicer_ids.specs.declared.ids.Statement.{Statement}
use Rattle.dep_form.specs.declared.access.Access.{Access}
use Rattle.dep_form.specs.declared.facts.Facts.{Facts}
use Rattle.dep_form.specs.LookUps.{IsClassNamed, IsMethodNamed, IsStatement, IsAccessAt, AreAtLine}
use Rattle.script.specs.declared.command.Place.{Place}
use Rattle.report.specs.declared.reply.CommandError.{CommandError}
use Rattle.report.specs.declared.reply.CommandError.TheVariants.{NoClass, NoMethod, NoStatement, NoLine, NoAccess}

module _ (f : Facts) where
  -- the class has no method of the name and descriptor
  abbrev pub HasNoMethod : ClassId → Place → Type 0
  HasNoMethod c p = (m : MethodId) → IsMethodNamed f c p.name p.descriptor m → ⊥

  -- no class has the name
  abbrev pub HasNoClass : List ℕ → Type 0
  HasNoClass name = (c : ClassId) → IsClassNamed f name c → ⊥

  -- the place names a method
  abbrev pub NamesMethod : Place → MethodId → Type 0
  NamesMethod p m = (c : ClassId) × IsClassNamed f p.class c × IsMethodNamed f c p.name p.descriptor m

  -- the place names a statement
  abbrev pub NamesStatement : Place → Statement → Type 0
  NamesStatement p s = NamesMethod p s.method × (s.pc ≡ p.pc) × IsStatement f s

  -- it names none: the first part of it that isn't there
  pub data NamesNone (p : Place) : CommandError → Type 0 where
    no_class : HasNoClass p.class → NamesNone p NoClass
    no_method : (c : ClassId) → IsClassNamed f p.class c → HasNoMethod c p → NamesNone p NoMethod
    no_statement : (m : MethodId) → NamesMethod p m → (IsStatement f (record { method = m; pc = p.pc }) → ⊥) → NamesNone p NoStatement

  -- the statement accesses the heap
  abbrev pub IsAccess : Statement → Type 0
  IsAccess s = (a : Access) × IsAccessAt f s a

  -- the place names an access
  abbrev pub NamesAccess : Place → Statement → Access → Type 0
  NamesAccess p s a = NamesStatement p s × IsAccessAt f s a

  -- it names none
  pub data NamesNoAccess (p : Place) : CommandError → Type 0 where
    no_place : {e : CommandError} → NamesNone p e → NamesNoAccess p e
    no_access : (s : Statement) → NamesStatement p s → (IsAccess s → ⊥) → NamesNoAccess p NoAccess

  -- the class has no statement at the line
  pub data NamesNoLine (name : List ℕ) (line : ℕ) : CommandError → Type 0 where
    no_such_class : HasNoClass name → NamesNoLine name line NoClass
    no_such_line : (c : ClassId) → IsClassNamed f name c → AreAtLine f c line [] → NamesNoLine name line NoLine
