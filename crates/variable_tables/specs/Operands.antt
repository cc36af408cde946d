-- Operands whose objects have a variable of their own.
use Rattle.std.specs.Prelude.{◌≡◌, ◌≢◌, ◌⊎◌, ◌↔◌, ◌++◌, ◌<◌, ℕ, List, [], AllPairs, Some, Contains, slice_get}
use Rattle.slicer_ids.specs.Order.{StatementBefore}
use Rattle.slicer_ids.specs.declared.ids.MethodId.{MethodId}
use Rattle.class_form.specs.Opcodes.{IsPutField, IsReferenceStore}
use Rattle.class_form.specs.Reaching.{HoldsIn, HoldsAt}
use Rattle.class_form.specs.declared.body.Body.{Body}
use Rattle.class_form.specs.declared.body.Point.{Point}
use Rattle.class_form.specs.declared.body.Shape.{Shape}
use Rattle.class_form.specs.declared.body.SlotUse.{SlotUse}
use Rattle.class_form.specs.declared.body.Def.{Def}
use Rattle.class_form.specs.declared.body.Def.TheVariants.{Formal, Value, Caught}
use Rattle.dep_form.specs.declared.rules.Var.{Var}
use Rattle.dep_form.specs.declared.rules.MethodVars.{MethodVars}
use Rattle.program_form.specs.Programs.{Program}
use Rattle.program_form.specs.Statements.{OperandIs}
use Rattle.constraint_form.specs.Variables.{ReadsFirst, ReadsObject}
use Rattle.signature_tables.specs.Statements.{statement}
use Rattle.variable_tables.specs.Numbers.{keys_of}
use Rattle.variable_tables.specs.Statements.{Rises}
use Rattle.variable_tables.specs.declared.alone.Seen.{Seen}
use Rattle.variable_tables.specs.declared.alone.Seen.TheVariants.{Nothing, One, Several}
use Rattle.variable_tables.specs.declared.tables.OperandPlace.{OperandPlace}

-- this definition is the only one for which D holds
abbrev pub IsAlone : (Def → Type 0) → Def → Type 0
IsAlone D d = D d × ((e : Def) → D e → e ≡ d)

-- whether none, one or several were seen among definitions
abbrev pub IsSeen : List Def → Seen → Type 0
IsSeen ds Nothing = ds ≡ []
IsSeen ds (One d) = Contains ds d × ((e : Def) → Contains ds e → e ≡ d)
IsSeen ds Several = (d : Def) × (e : Def) × Contains ds d × Contains ds e × (d ≢ e)

-- what is seen after one more use: the definitions that hold in its slot too, where it is one of the operand
abbrev pub IsSeenMore : Shape → ℕ → ℕ → SlotUse → Seen → Seen → Type 0
IsSeenMore s pc operand u seen after =
    ((u.operand ≡ operand)
    × ((ds : List Def) → IsSeen ds seen → (more : List Def) × IsSeen (ds ++ more) after × ((d : Def) → Contains more d ↔ HoldsAt s pc u.slot d)))
    ⊎ ((u.operand ≡ operand → ⊥) × (after ≡ seen))

-- the number of the variable of a definition, by the tables of its method
abbrev pub NumberIn : MethodVars → Def → Var → Type 0
NumberIn v (Formal i) x = slice_get v.formals i ≡ Some x
NumberIn v (Value pc) x = Contains v.values (pc, x)
NumberIn v (Caught h) x = Contains v.caught (h, x)

-- the tables of a method are in order
pub record AreInOrder (v : MethodVars) : Type 0 where
  pub values : AllPairs Rises (keys_of v.values)
  pub caught : AllPairs Rises (keys_of v.caught)

-- .. by those of all methods
abbrev pub DefNumber : List MethodVars → MethodId → Def → Var → Type 0
DefNumber vs m d x = (v : MethodVars) × (slice_get vs m.0 ≡ Some v) × NumberIn v d x

-- one definition alone holds in the operand, and has this number
abbrev pub IsDefinedAs : List MethodVars → Body → ℕ → ℕ → Var → Type 0
IsDefinedAs vs b pc i x = (d : Def) × IsAlone (HoldsIn b.shape pc i) d × DefNumber vs b.method d x

-- .. in the operand of a statement of a program
abbrev pub HasDefinition : Program → List MethodVars → OperandPlace → Type 0
HasDefinition p vs k =
    (d : Def) × (x : Var) × IsAlone (OperandIs p k.statement k.operand) d × DefNumber vs k.statement.method d x

abbrev pub IsRead : Program → OperandPlace → Type 0
IsRead p k = ReadsObject p k.statement k.operand

-- by statement, then by number
abbrev pub OperandBefore : OperandPlace → OperandPlace → Type 0
OperandBefore a b = StatementBefore a.statement b.statement ⊎ ((a.statement ≡ b.statement) × (a.operand < b.operand))

-- an instruction with so many arguments reads the operand as an object
abbrev pub Reads : ℕ → ℕ → ℕ → Type 0
Reads op arguments i =
    ((i ≡ 0) × ReadsFirst op) ⊎ (((i ≡ 1) × IsPutField op) ⊎ (((i ≡ 2) × IsReferenceStore op) ⊎ (i < arguments)))

-- the operand of this number of the instruction at a program counter, which reads it
abbrev pub IsReadAt : Body → ℕ → ℕ → ℕ → ℕ → OperandPlace → Type 0
IsReadAt b pc op arguments i k = (k ≡ record { statement = statement b pc; operand = i }) × Reads op arguments i

-- .. of any number
abbrev pub IsReadBy : Body → ℕ → ℕ → ℕ → OperandPlace → Type 0
IsReadBy b pc op arguments k = (i : ℕ) × IsReadAt b pc op arguments i k

-- one definition alone holds in the operand of the body, and has a number
abbrev pub IsDefined : List MethodVars → Body → OperandPlace → Type 0
IsDefined vs b k = (x : Var) × IsDefinedAs vs b k.statement.pc k.operand x

-- an operand of the statement at a point of a body, which reads it
abbrev pub IsReadThere : Program → Body → Point → OperandPlace → Type 0
IsReadThere p b q k = (k.statement ≡ statement b q.pc) × IsRead p k
