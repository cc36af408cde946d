-- Accepted programs have what is asked of a program, so a folder and a script have one text.
use Rattle.std.proofs.Common.{◌≡◌, ℕ, true, List, Option, Contains, codes, sym, subst}
use Rattle.std.specs.Prelude.{All}
use Rattle.std.proofs.lemmas.List.Elements.{All-contains}
use Rattle.slicer_ids.specs.declared.ids.MethodId.{MethodId}
use Rattle.edge_io.specs.Files.{Files}
use Rattle.class_form.specs.Classes.{Declared, IsStatic}
use Rattle.class_form.specs.ClassRules.{IsClassFile}
use Rattle.class_form.specs.declared.class_file.ClassFile.{ClassFile}
use Rattle.class_form.specs.declared.class_file.Member.{Member}
use Rattle.dep_form.specs.declared.rules.Entry.{Entry}
use Rattle.dep_form.specs.declared.facts.Facts.{Facts}
use Rattle.program_form.specs.Programs.{Program, MethodOf, HasFormal}
use Rattle.program_form.specs.Graphs.{Numbering, AreFactsOf}
use Rattle.program_code.specs.Codes.{IsProgramOfCode}
use Rattle.constraint_form.specs.Asked.{IsReadProgram}
use Rattle.call_graph.specs.Entries.{IsEntry}
use Rattle.session_form.specs.Scripts.{IsScriptText}
use Rattle.acceptance.specs.Programs.{IsProgramOf}
use Rattle.acceptance.specs.Refusals.{Accepts}
use Rattle.acceptance.proofs.OneProgram.{keep_rules}
use Rattle.text_laws.proofs.SameScripts.{one_text_of_program}

-- entries that are given an argument have one
abbrev pub HaveAnArgument : Program → Type 0
HaveAnArgument p = (e : Entry) → Contains p.entries e → e.arguments ≡ true → HasFormal p e.method 0

-- what laws of read_programs say
abbrev pub MainsHaveAnArgument : Type 0
MainsHaveAnArgument = (p : Program) (m : MethodId) (d : Declared) (x : Member) (name : List ℕ) → MethodOf p m d x name (codes "([Ljava/lang/String;)V") → IsStatic x.flags → HasFormal p m 0

abbrev pub AreRead : Type 0
AreRead = (p : Program) → IsProgramOfCode p → All IsClassFile p.classes → HaveAnArgument p → IsReadProgram p

entries_have : MainsHaveAnArgument → (files : List ClassFile) (main : Option (List ℕ)) (p : Program) → IsProgramOf files main p → HaveAnArgument p
entries_have mains files main p h e c given =
    let (arguments, d, at, (x, code, method, public, static, has, chosen)) = All-contains (IsEntry p.classes p.methods main) p.entries e (h.entries.each p.methods h.code.methods).each c in
    mains p e.method d x (codes "main") (at, method) static

module _ (mains : MainsHaveAnArgument) (read : AreRead) (m : Files) (folder : List ℕ) (main : Option (List ℕ)) where
  pub keeps_rules : (p : Program) → Accepts m folder main p → All IsClassFile p.classes
  keeps_rules p h = keep_rules h.found.1 h.files main h.found.3 p h.program

  pub is_read : (p : Program) → Accepts m folder main p → IsReadProgram p
  is_read p h = read p h.program.code (keeps_rules p h) (entries_have mains h.files main p h.program)

  pub one_text_of_folder : (p q : Program) (ns ms : Numbering) (f g : Facts) (script a b : List ℕ) → p ≡ q → Accepts m folder main p → AreFactsOf p ns f → AreFactsOf q ms g →
      IsScriptText f script a → IsScriptText g script b → a ≡ b
  one_text_of_folder p q ns ms f g script a b same h first second x y =
      one_text_of_program p ns ms f g script a b (is_read p h) h.program.code (keeps_rules p h) first (subst (λ z. AreFactsOf z ms g) (sym same) second) x y
