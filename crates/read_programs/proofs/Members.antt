-- A virtual call names a method.
use Rattle.std.proofs.Common.{◌≡◌, ℕ, List, All, Some, inl, inr, refl}
use Rattle.slicer_ids.specs.declared.ids.Statement.{Statement}
use Rattle.class_form.specs.ClassRules.{IsClassFile}
use Rattle.class_form.specs.Opcodes.{IsVirtualCall}
use Rattle.class_form.specs.Pools.{MemberKey, member_at}
use Rattle.class_form.specs.PoolRules.{IsPool}
use Rattle.class_form.specs.Table.{opcode_of}
use Rattle.class_form.specs.Instructions.{Stands}
use Rattle.class_form.specs.declared.opcode.ConstantKind.TheVariants.{Method, InterfaceMethod}
use Rattle.class_form.specs.declared.opcode.Form.TheVariants.{Index, LongIndex}
use Rattle.class_form.specs.declared.pool.Pool.{Pool}
use Rattle.class_form.specs.declared.body.Instr.{Instr}
use Rattle.program_form.specs.Programs.{Program}
use Rattle.program_form.specs.Statements.{HasOpcode, NamesMember}
use Rattle.program_code.specs.Codes.{IsProgramOfCode}
use Rattle.read_programs.proofs.Forms.{constant_is}
use Rattle.read_programs.proofs.Constants.{named_method, named_interface_method}
use Rattle.read_programs.proofs.Placing.{placed}

calls_class : (opcode_of 182).form ≡ Index Method
unfolding opcode_of
calls_class = refl

calls_interface : (opcode_of 185).form ≡ LongIndex InterfaceMethod
unfolding opcode_of
calls_interface = refl

member_named : (code : List ℕ) (pool : Pool) (pc : ℕ) (i : Instr) → IsPool pool → Stands code pool pc i → IsVirtualCall i.op → (key : MemberKey) × (member_at pool i.index ≡ Some key)
member_named code pool pc i keeps stands (inl e) =
    let c = constant_is code pool pc 182 (Index Method) i stands e calls_class refl in
    named_method pool keeps i.index c.0 c.1 c.2
member_named code pool pc i keeps stands (inr e) =
    let c = constant_is code pool pc 185 (LongIndex InterfaceMethod) i stands e calls_interface refl in
    named_interface_method pool keeps i.index c.0 c.1 c.2

pub virtual_member : (p : Program) → IsProgramOfCode p → All IsClassFile p.classes → (s : Statement) → HasOpcode p s IsVirtualCall → (key : MemberKey) × NamesMember p s key
virtual_member p coded sound s (b, i, at, is) =
    let c = placed p coded sound s b i at in
    let m = member_named c.code.code c.file.pool s.pc i c.keeps.pool c.stands is in
    (m.0, (b, i, c.number, c.file, at, c.of_class, m.1))
