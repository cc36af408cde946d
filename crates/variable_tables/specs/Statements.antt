-- What code knows of the statements of a body.
use Rattle.std.specs.Prelude.{◌≡◌, ◌<◌, ℕ, List, All, AllPairs, Contains}
use Rattle.class_form.specs.Opcodes.{IsCall}
use Rattle.class_form.specs.Classes.{HasCode}
use Rattle.class_form.specs.Reaching.{IsFlow}
use Rattle.class_form.specs.Reaches.{IsReachOf}
use Rattle.class_form.specs.declared.class_file.Member.{Member}
use Rattle.class_form.specs.declared.class_file.Attribute.{Attribute}
use Rattle.class_form.specs.declared.class_file.Content.TheVariants.{Code}
use Rattle.class_form.specs.declared.class_file.CodeBody.{CodeBody}
use Rattle.class_form.specs.declared.class_file.Handler.{Handler}
use Rattle.class_form.specs.declared.body.Body.{Body}
use Rattle.class_form.specs.declared.body.Instr.{Instr}
use Rattle.class_form.specs.declared.body.Point.{Point}
use Rattle.constraint_form.specs.Variables.{MakesObject}
use Rattle.variable_tables.specs.declared.kinds.Kind.{Kind}
use Rattle.variable_tables.specs.declared.kinds.Kind.TheVariants.{Values, Calls}

-- control can be followed in the body, and its table has the definitions that hold there
pub record IsFollowed (b : Body) : Type 0 where
  pub flow : IsFlow b.shape
  pub reach : IsReachOf b.shape b.reach

abbrev pub AreFollowed : List Body → Type 0
AreFollowed bs = All IsFollowed bs

abbrev pub Rises : ℕ → ℕ → Type 0
Rises a b = a < b

abbrev pub ArePoints : List Point → Type 0
ArePoints points = AllPairs (λ (p q : Point). p.pc < q.pc) points

abbrev pub IsOfKind : Kind → ℕ → Type 0
IsOfKind Values op = MakesObject op
IsOfKind Calls op = IsCall op

-- an instruction of the kind stands at the program counter
abbrev pub HasKind : Kind → List Instr → ℕ → Type 0
HasKind kind instrs pc = (i : Instr) × Contains instrs i × (i.pc ≡ pc) × IsOfKind kind i.op

-- .. and is reachable
abbrev pub PointHas : Kind → List Instr → Point → ℕ → Type 0
PointHas kind instrs q pc = (q.pc ≡ pc) × HasKind kind instrs pc

abbrev pub BodyHas : Kind → Body → ℕ → Type 0
BodyHas kind b pc = (q : Point) × Contains b.shape.points q × PointHas kind b.instrs q pc

abbrev pub IsPcOfHandler : Handler → ℕ → Type 0
IsPcOfHandler h pc = h.handler ≡ pc

-- an entry of the code has its handler there
abbrev pub IsPcOfAttribute : Attribute → ℕ → Type 0
IsPcOfAttribute a pc = (c : CodeBody) × (a.content ≡ Code c) × (h : Handler) × Contains c.handlers h × (h.handler ≡ pc)

-- .. of the method's
abbrev pub IsHandlerPc : Member → ℕ → Type 0
IsHandlerPc x pc = (c : CodeBody) × HasCode x c × (h : Handler) × Contains c.handlers h × (h.handler ≡ pc)
