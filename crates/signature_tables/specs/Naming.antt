-- Which instructions name texts that are looked for.
use Rattle.std.specs.Prelude.{◌≡◌, ◌⊎◌, ◌↔◌, ℕ, List, Option, Some, None}
use Rattle.slicer_ids.specs.declared.ids.Statement.{Statement}
use Rattle.program_form.specs.Programs.{Program}
use Rattle.signature_tables.specs.Statements.{NamesTexts}
use Rattle.class_form.specs.Pools.{MemberKey}
use Rattle.class_form.specs.Opcodes.{IsVirtualCall, IsGetStatic, IsPutStatic}
use Rattle.class_form.specs.Resolution.{FindsField}
use Rattle.class_form.specs.declared.class_file.ClassFile.{ClassFile}
use Rattle.signature_tables.specs.declared.wanted.Wanted.{Wanted}
use Rattle.signature_tables.specs.declared.wanted.Wanted.TheVariants.{Signatures, ForeignStatics}

-- an instruction of the opcode names the member, and it is looked for
abbrev pub IsNamedBy : Wanted → List ClassFile → ℕ → MemberKey → Type 0
IsNamedBy Signatures classes op m = IsVirtualCall op
IsNamedBy ForeignStatics classes op m = (IsGetStatic op ⊎ IsPutStatic op) × FindsField classes m None

-- the texts that the statement names among those that are looked for, or none
abbrev pub AreTextsOf : Wanted → Program → Statement → Option (List ℕ × List ℕ) → Type 0
AreTextsOf wanted p t found = (nd : List ℕ × List ℕ) → NamesTexts wanted p t nd ↔ (found ≡ Some nd)
