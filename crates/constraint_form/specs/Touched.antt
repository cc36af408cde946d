-- What statements that are no calls define and use on the heap, by numbers.
use Rattle.std.specs.Prelude.{Bool, true, false, ℕ, suc, List, [], ◌∷◌, Option}
use Rattle.slicer_ids.specs.declared.ids.SiteId.{SiteId}
use Rattle.slicer_ids.specs.declared.ids.FieldId.{FieldId}
use Rattle.slicer_ids.specs.declared.ids.Statement.{Statement}
use Rattle.class_form.specs.Opcodes.{IsArrayLoad, IsArrayStore, IsGetStatic, IsPutStatic, IsGetField, IsPutField, IsNewArray, IsArrayLength, IsMultiNewArray}
use Rattle.class_form.specs.declared.types.FieldType.{FieldType}
use Rattle.dep_form.specs.declared.rules.Var.{Var}
use Rattle.dep_form.specs.declared.rules.Spot.{Spot}
use Rattle.dep_form.specs.declared.rules.Spot.TheVariants.{Field, Made as MadeSpot, Static}
use Rattle.dep_form.specs.declared.system.System.{System}
use Rattle.dep_form.specs.Constraints.{elements_field, length_field}
use Rattle.program_form.specs.Programs.{Program}
use Rattle.program_form.specs.Statements.{HasOpcode, NamesField}
use Rattle.program_form.specs.Sites.{Made, HasType}
use Rattle.program_form.specs.Facts.{Variable, field_name, IsStaticVariable}
use Rattle.program_form.specs.Systems.{SiteNumber, FieldNumber, VariableNumber}
use Rattle.constraint_form.specs.Variables.{Meaning, OperandNumber}

-- the statement defines (true) or uses (false) the spot
pub data IsTouch (p : Program) (s : System) (names : List Meaning) (t : Statement) : Bool → Spot → Type 0 where
  writes_field : (f : Option FieldId) {x : Var} {g : FieldId} → HasOpcode p t IsPutField → NamesField p t f → OperandNumber p s names t 0 x →
      FieldNumber s (field_name f) g → IsTouch p s names t true (Field (x ∷ []) g)
  writes_element : {x : Var} → HasOpcode p t IsArrayStore → OperandNumber p s names t 0 x → IsTouch p s names t true (Field (x ∷ []) (elements_field s))
  writes_static : {v : Variable} {x : Var} → HasOpcode p t IsPutStatic → IsStaticVariable p t v → VariableNumber p s v x →
      IsTouch p s names t true (Static x)
  makes_array : {n : SiteId} → HasOpcode p t IsNewArray → SiteNumber p n (Made t 0) → IsTouch p s names t true (MadeSpot n (length_field s))
  makes_dimension : {k : ℕ} {n : SiteId} → HasOpcode p t IsMultiNewArray → SiteNumber p n (Made t k) →
      IsTouch p s names t true (MadeSpot n (length_field s))
  makes_elements : {k : ℕ} {n : SiteId} {u : FieldType} → HasOpcode p t IsMultiNewArray → SiteNumber p n (Made t k) → HasType p (Made t (suc k)) u →
      IsTouch p s names t true (MadeSpot n (elements_field s))
  reads_field : (f : Option FieldId) {x : Var} {g : FieldId} → HasOpcode p t IsGetField → NamesField p t f → OperandNumber p s names t 0 x →
      FieldNumber s (field_name f) g → IsTouch p s names t false (Field (x ∷ []) g)
  reads_element : {x : Var} → HasOpcode p t IsArrayLoad → OperandNumber p s names t 0 x → IsTouch p s names t false (Field (x ∷ []) (elements_field s))
  reads_length : {x : Var} → HasOpcode p t IsArrayLength → OperandNumber p s names t 0 x → IsTouch p s names t false (Field (x ∷ []) (length_field s))
  reads_static : {v : Variable} {x : Var} → HasOpcode p t IsGetStatic → IsStaticVariable p t v → VariableNumber p s v x →
      IsTouch p s names t false (Static x)
