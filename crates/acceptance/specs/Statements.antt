-- What is said of a statement of a program.
use Rattle.std.specs.Prelude.{◌≡◌, ◌++◌, ℕ, List, Option, codes}
use Rattle.std.specs.Fmt.{decimal}
use Rattle.slicer_ids.specs.Escapes.{printed}
use Rattle.slicer_ids.specs.declared.ids.Statement.{Statement}
use Rattle.class_form.specs.Classes.{Declared, IsNamed}
use Rattle.class_form.specs.declared.class_file.Member.{Member}
use Rattle.program_form.specs.Programs.{Program, MethodOf}
use Rattle.program_form.specs.Lines.{IsLineOf}
use Rattle.report.specs.Texts.{line_word}
use Rattle.call_graph.specs.declared.refusals.RefusedKind.{RefusedKind}
use Rattle.call_graph.specs.declared.refusals.RefusedKind.TheVariants.{Native, Dynamic, Reflection}

-- class, name and descriptor as they are printed, the program counter, and the line or a dash
abbrev pub statement_text : List ℕ → List ℕ → List ℕ → ℕ → Option ℕ → List ℕ
statement_text class name descriptor pc line =
    printed class ++ codes " " ++ printed name ++ codes " " ++ printed descriptor ++ codes " " ++ decimal pc ++ codes " " ++ line_word line

abbrev pub IsStatementText : Program → Statement → List ℕ → Type 0
IsStatementText p s text =
    (d : Declared) × (x : Member) × (class : List ℕ) × (name : List ℕ) × (descriptor : List ℕ) × (line : Option ℕ)
    × MethodOf p s.method d x name descriptor × IsNamed p.classes class d.class × IsLineOf p s line
    × (text ≡ statement_text class name descriptor s.pc line)

-- why a statement is refused
abbrev pub kind_text : RefusedKind → List ℕ
kind_text Native = codes "native"
kind_text Dynamic = codes "dynamic"
kind_text (Reflection n) = codes "reflection " ++ decimal n

-- a statement is refused
abbrev pub statement_refusal : RefusedKind → List ℕ → List ℕ
statement_refusal kind text = codes "refused " ++ kind_text kind ++ codes " " ++ text
