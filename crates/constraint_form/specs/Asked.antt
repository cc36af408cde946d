-- What is asked of a program before its constraints are made. Each program whose bodies were read from its class files has it.
use Rattle.std.specs.Prelude.{◌≡◌, ◌<◌, ◌≤◌, ℕ, Bool, true, List, AllPairs, Contains, length}
use Rattle.slicer_ids.specs.declared.ids.MethodId.{MethodId}
use Rattle.slicer_ids.specs.declared.ids.Statement.{Statement}
use Rattle.class_form.specs.Pools.{MemberKey}
use Rattle.class_form.specs.Types.{IsMethodType, NamesType}
use Rattle.class_form.specs.Opcodes.{IsVirtualCall, IsNewArray, IsMultiNewArray}
use Rattle.class_form.specs.Classes.{Declared, AreInOrder}
use Rattle.class_form.specs.Resolution.{DeclaresInstance}
use Rattle.class_form.specs.declared.class_file.Member.{Member}
use Rattle.class_form.specs.declared.class_file.CodeBody.{CodeBody}
use Rattle.class_form.specs.declared.types.FieldType.{FieldType}
use Rattle.class_form.specs.declared.types.MethodType.{MethodType}
use Rattle.class_form.specs.declared.body.Body.{Body}
use Rattle.class_form.specs.declared.body.Instr.{Instr}
use Rattle.class_form.specs.declared.body.Def.{Def}
use Rattle.dep_form.specs.declared.rules.Entry.{Entry}
use Rattle.program_form.specs.Programs.{Program, MethodOf, CodeOf, HasFormal, DeclaresOnce, references_of}
use Rattle.program_form.specs.Statements.{IsAt, HasOpcode, OperandIs, NamesClass, NamesMember, CallType, IsInstance}
use Rattle.program_form.specs.Sites.{Made, HasType}

pub record IsReadProgram (p : Program) : Type 0 where
  pub classes : AreInOrder p.classes
  -- bodies are in order of method, and of methods with code
  pub bodies : AllPairs (λ (a b : Body). a.method.0 < b.method.0) p.bodies
  pub coded : (b : Body) → Contains p.bodies b → (c : CodeBody) × CodeOf p b.method c
  -- a body has one instruction at a program counter
  pub instructions : (b : Body) → Contains p.bodies b → AllPairs (λ (i j : Instr). i.pc < j.pc) b.instrs
  -- no class declares two methods of one name and descriptor
  pub once : (key : MemberKey) → DeclaresOnce (DeclaresInstance p.classes key)
  -- a method has a type
  pub types : (m : MethodId) (d : Declared) (x : Member) (name bytes : List ℕ) → MethodOf p m d x name bytes → (t : MethodType) × IsMethodType bytes t
  -- a call takes its arguments and nothing else
  pub operands : (s : Statement) (t : MethodType) (instance : Bool) (i : ℕ) (d : Def) → CallType p s t → IsInstance p s instance → OperandIs p s i d →
      i < length (references_of instance t)
  -- a virtual call names a method, and an array that is made has a type
  pub members : (s : Statement) → HasOpcode p s IsVirtualCall → (key : MemberKey) × NamesMember p s key
  pub arrays : (s : Statement) → HasOpcode p s IsNewArray → (t : FieldType) × HasType p (Made s 0) t
  -- .. of at least as many dimensions as are made
  pub dimensions : (s : Statement) (b : Body) (i : Instr) (text : List ℕ) (t : FieldType) → IsAt p s b i → IsMultiNewArray i.op → NamesClass p s text →
      NamesType text t → i.dims ≤ t.dims
  -- an entry method that is given an argument has one
  pub entries : (e : Entry) → Contains p.entries e → e.arguments ≡ true → HasFormal p e.method 0
