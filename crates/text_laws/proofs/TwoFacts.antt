-- Two facts of one program: what is known of both, and that it may be read the other way round.
use Rattle.std.specs.Prelude.{All}
use Rattle.class_form.specs.ClassRules.{IsClassFile}
use Rattle.dep_form.specs.declared.facts.Facts.{Facts}
use Rattle.dep_form.specs.WithinFacts.{AreFacts}
use Rattle.program_form.specs.Programs.{Program}
use Rattle.program_form.specs.Graphs.{Numbering, AreFactsOf}
use Rattle.program_code.specs.Codes.{IsProgramOfCode}
use Rattle.constraint_form.specs.Asked.{IsReadProgram}

-- what facts keep
abbrev pub Keeps : Facts → Type 0
Keeps f = AreFacts f.inputs f.exits f.classes f.methods f.sites f.lines f.accesses f.values

-- all that is asked of the program
pub record IsKnown (p : Program) : Type 0 where
  pub asked : IsReadProgram p
  pub coded : IsProgramOfCode p
  pub files : All IsClassFile p.classes

pub record AreOfOne (p : Program) (ns ms : Numbering) (f g : Facts) : Type 0 where
  pub known : IsKnown p
  pub first : AreFactsOf p ns f
  pub second : AreFactsOf p ms g
  pub keeps : Keeps f
  pub keeps_too : Keeps g

pub turned : (p : Program) (ns ms : Numbering) (f g : Facts) → AreOfOne p ns ms f g → AreOfOne p ms ns g f
turned p ns ms f g o = record { known = o.known; first = o.second; second = o.first; keeps = o.keeps_too; keeps_too = o.keeps }
