-- What code knows of a statement.
use Rattle.std.specs.Prelude.{◌≡◌, ◌⊎◌, ◌<◌, ℕ, List, AllPairs, Contains, None, length}
use Rattle.slicer_ids.specs.declared.ids.MethodId.{MethodId}
use Rattle.slicer_ids.specs.declared.ids.Statement.{Statement}
use Rattle.worklists.specs.Growth.{FromOne}
use Rattle.class_form.specs.Pools.{MemberKey}
use Rattle.class_form.specs.Opcodes.{IsVirtualCall, IsGetStatic, IsPutStatic}
use Rattle.class_form.specs.declared.class_file.ClassFile.{ClassFile}
use Rattle.class_form.specs.declared.body.Body.{Body}
use Rattle.class_form.specs.declared.body.Instr.{Instr}
use Rattle.class_form.specs.declared.body.Point.{Point}
use Rattle.program_form.specs.Programs.{Program}
use Rattle.program_form.specs.Statements.{HasOpcode, NamesMember, NamesField}
use Rattle.signature_tables.specs.Programs.{IsOfClasses}
use Rattle.signature_tables.specs.declared.wanted.Wanted.{Wanted}
use Rattle.signature_tables.specs.declared.wanted.Wanted.TheVariants.{Signatures, ForeignStatics}

-- a program of the classes has a method of this number, has the body
abbrev pub HasMethod : List ClassFile → MethodId → Type 0
HasMethod classes m = (p : Program) × IsOfClasses classes p × (m.0 < length p.methods)

abbrev pub HasBody : List ClassFile → Body → Type 0
HasBody classes b = (p : Program) × IsOfClasses classes p × Contains p.bodies b

-- the bodies are those of a program of the classes
abbrev pub HasBodies : List ClassFile → List Body → Type 0
HasBodies classes bs = (p : Program) × IsOfClasses classes p × (p.bodies ≡ bs)

abbrev pub AreInOrder : List Instr → Type 0
AreInOrder is = AllPairs (λ (i j : Instr). i.pc < j.pc) is

-- an instruction stands at a program counter
abbrev pub IsInstrPc : List Instr → ℕ → Type 0
IsInstrPc is pc = (i : Instr) × Contains is i × (i.pc ≡ pc)

abbrev pub statement : Body → ℕ → Statement
statement b pc = record { method = b.method; pc = pc }

-- the statement names a member of these texts: by a virtual call; by the read or write of a static field that the folder hasn't
abbrev pub NamesTexts : Wanted → Program → Statement → List ℕ × List ℕ → Type 0
NamesTexts Signatures p t nd = (key : MemberKey) × HasOpcode p t IsVirtualCall × NamesMember p t key × (key.name ≡ nd.0) × (key.descriptor ≡ nd.1)
NamesTexts ForeignStatics p t nd =
    (key : MemberKey) × HasOpcode p t (λ op. IsGetStatic op ⊎ IsPutStatic op) × NamesField p t None × NamesMember p t key
    × (key.name ≡ nd.0) × (key.descriptor ≡ nd.1)

-- some statement of a body does
abbrev pub BodyNames : Wanted → Program → Body → List ℕ × List ℕ → Type 0
BodyNames wanted p b = FromOne (λ (q : Point). NamesTexts wanted p (statement b q.pc)) b.shape.points

-- .. of a program
abbrev pub ProgramNames : Wanted → Program → List ℕ × List ℕ → Type 0
ProgramNames wanted p nd = (t : Statement) × NamesTexts wanted p t nd
