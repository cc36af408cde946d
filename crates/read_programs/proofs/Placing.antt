-- The instruction of a statement, in its code and its class file.
use Rattle.std.proofs.Common.{ℕ, length, All, refl, subst}
use Rattle.std.proofs.lemmas.List.Elements.{All-contains}
use Rattle.slicer_ids.specs.declared.ids.Statement.{Statement}
use Rattle.class_form.specs.ClassRules.{IsClassFile}
use Rattle.class_form.specs.Instructions.{Stands}
use Rattle.class_form.specs.declared.class_file.ClassFile.{ClassFile}
use Rattle.class_form.specs.declared.class_file.CodeBody.{CodeBody}
use Rattle.class_form.specs.declared.body.Body.{Body}
use Rattle.class_form.specs.declared.body.Instr.{Instr}
use Rattle.class_form.proofs.Indices.{there_at}
use Rattle.program_form.specs.Programs.{Program, ClassOf, CodeOf}
use Rattle.program_form.specs.Statements.{IsAt}
use Rattle.program_code.specs.Codes.{IsOfMethod, IsProgramOfCode}
use Rattle.program_code.proofs.OneInstruction.{stands}

pub record IsPlaced (p : Program) (s : Statement) (i : Instr) : Type 0 where
  pub number : ℕ
  pub file : ClassFile
  pub code : CodeBody
  pub of_class : ClassOf p s.method number file
  pub of_code : CodeOf p s.method code
  pub keeps : IsClassFile file
  pub stands : Stands code.code file.pool s.pc i

module _ (p : Program) (coded : IsProgramOfCode p) (sound : All IsClassFile p.classes) where
  pub placed : (s : Statement) (b : Body) (i : Instr) → IsAt p s b i → IsPlaced p s i
  placed s b i at =
      let h : IsOfMethod p b = All-contains (IsOfMethod p) p.bodies b coded.bodies at.0 in
      record {
        number = h.0.class;
        file = h.4;
        code = h.5;
        of_class = subst (λ m. ClassOf p m h.0.class h.4) at.1 (h.0, h.6.0, refl, h.7);
        of_code = subst (λ m. CodeOf p m h.5) at.1 (h.0, h.1, h.2, h.3, h.6, h.8);
        keeps = All-contains IsClassFile p.classes h.4 sound (there_at p.classes h.0.class h.4 h.7);
        stands = subst (λ n. Stands h.5.code h.4.pool n i) at.3 (stands h.5.code h.4.pool 0 b.instrs (length h.5.code) i h.9.instrs at.2);
      }
