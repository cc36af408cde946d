-- What a statement that is no call defines and uses, rule by rule.
use Rattle.std.specs.Prelude.{◌≡◌, ◌<◌, ◌+◌, ◌-◌, ◌⊎◌, ℕ, suc, Bool, true, false, List, [], ◌∷◌}
use Rattle.slicer_ids.specs.Order.{StatementBefore}
use Rattle.slicer_ids.specs.declared.ids.SiteId.{SiteId}
use Rattle.slicer_ids.specs.declared.ids.FieldId.{FieldId}
use Rattle.slicer_ids.specs.declared.ids.Statement.{Statement}
use Rattle.class_form.specs.Opcodes.{IsArrayLoad, IsArrayStore, IsGetStatic, IsPutStatic, IsGetField, IsPutField, IsNewArray, IsArrayLength, IsMultiNewArray}
use Rattle.class_form.specs.declared.types.FieldType.{FieldType}
use Rattle.dep_form.specs.declared.rules.Var.{Var}
use Rattle.dep_form.specs.declared.rules.Spot.{Spot}
use Rattle.dep_form.specs.declared.rules.Spot.TheVariants.{Field, Made as MadeSpot, Static}
use Rattle.dep_form.specs.declared.rules.Touch.{Touch}
use Rattle.dep_form.specs.declared.system.System.{System}
use Rattle.dep_form.specs.Constraints.{elements_field, length_field}
use Rattle.program_form.specs.Programs.{Program}
use Rattle.program_form.specs.Statements.{HasOpcode}
use Rattle.program_form.specs.Sites.{Made, HasType}
use Rattle.program_form.specs.Systems.{SiteNumber}
use Rattle.constraint_form.specs.Variables.{Meaning, OperandNumber}
use Rattle.constraint_rules.specs.Statements.{IsFieldOf, IsStaticNumber}

-- the forms of spots, over what their parts may be
abbrev pub FieldOf : (Var → Type 0) → (FieldId → Type 0) → Spot → Type 0
FieldOf Base IsField spot = (x : Var) × (g : FieldId) × Base x × IsField g × (spot ≡ Field (x ∷ []) g)

abbrev pub StaticOf : (Var → Type 0) → Spot → Type 0
StaticOf Of spot = (x : Var) × Of x × (spot ≡ Static x)

abbrev pub MadeOf : (SiteId → Type 0) → (FieldId → Type 0) → Spot → Type 0
MadeOf Site IsField spot = (n : SiteId) × (g : FieldId) × Site n × IsField g × (spot ≡ MadeSpot n g)

-- a definition (true) or use (false) of such a spot at a place
abbrev pub IsTouchOf : Statement → Bool → (Spot → Type 0) → Touch → Type 0
IsTouchOf t write Of touch = (spot : Spot) × Of spot × (touch ≡ record { place = t; write = write; spot = spot })

-- of one of so many sites from the first on
abbrev pub IsOneSite : ℕ → ℕ → SiteId → Type 0
IsOneSite first count n = (k : ℕ) × (k < count) × (n ≡ record { 0 = first + k })

-- the lengths of so many arrays from the first on, and the elements of all but the last
abbrev pub IsOfArrays : System → ℕ → ℕ → Spot → Type 0
IsOfArrays s first count spot =
    MadeOf (IsOneSite first count) (λ g. g ≡ length_field s) spot ⊎ MadeOf (IsOneSite first (count - 1)) (λ g. g ≡ elements_field s) spot

-- touches are in order of their statements
abbrev pub TouchRises : Touch → Touch → Type 0
TouchRises a b = StatementBefore b.place a.place → ⊥

module _ (p : Program) (s : System) (names : List Meaning) (t : Statement) where
  abbrev pub OfElements : Spot → Type 0
  OfElements = FieldOf (OperandNumber p s names t 0) (λ g. g ≡ elements_field s)

  abbrev pub OfLength : Spot → Type 0
  OfLength = FieldOf (OperandNumber p s names t 0) (λ g. g ≡ length_field s)

  abbrev pub OfField : Spot → Type 0
  OfField = FieldOf (OperandNumber p s names t 0) (IsFieldOf p s t)

  abbrev pub OfStatic : Spot → Type 0
  OfStatic = StaticOf (IsStaticNumber p s t)

  -- the length of the first array that is made, of any, and the elements of each but the last
  abbrev pub OfArray : Spot → Type 0
  OfArray = MadeOf (λ n. SiteNumber p n (Made t 0)) (λ g. g ≡ length_field s)

  abbrev pub OfDimension : Spot → Type 0
  OfDimension = MadeOf (λ n. (k : ℕ) × SiteNumber p n (Made t k)) (λ g. g ≡ length_field s)

  abbrev pub OfInner : Spot → Type 0
  OfInner = MadeOf (λ n. (k : ℕ) × SiteNumber p n (Made t k) × ((u : FieldType) × HasType p (Made t (suc k)) u)) (λ g. g ≡ elements_field s)

module _ (p : Program) (s : System) (names : List Meaning) (t : Statement) where
  abbrev pub ReadingElement : Spot → Type 0
  ReadingElement spot = HasOpcode p t IsArrayLoad × OfElements p s names t spot

  abbrev pub ReadingLength : Spot → Type 0
  ReadingLength spot = HasOpcode p t IsArrayLength × OfLength p s names t spot

  abbrev pub ReadingField : Spot → Type 0
  ReadingField spot = HasOpcode p t IsGetField × OfField p s names t spot

  abbrev pub ReadingStatic : Spot → Type 0
  ReadingStatic spot = HasOpcode p t IsGetStatic × OfStatic p s names t spot

  abbrev pub WritingElement : Spot → Type 0
  WritingElement spot = HasOpcode p t IsArrayStore × OfElements p s names t spot

  abbrev pub WritingField : Spot → Type 0
  WritingField spot = HasOpcode p t IsPutField × OfField p s names t spot

  abbrev pub WritingStatic : Spot → Type 0
  WritingStatic spot = HasOpcode p t IsPutStatic × OfStatic p s names t spot

  abbrev pub MakingArray : Spot → Type 0
  MakingArray spot = HasOpcode p t IsNewArray × OfArray p s names t spot

  abbrev pub MakingDimension : Spot → Type 0
  MakingDimension spot = HasOpcode p t IsMultiNewArray × OfDimension p s names t spot

  abbrev pub MakingInner : Spot → Type 0
  MakingInner spot = HasOpcode p t IsMultiNewArray × OfInner p s names t spot

module _ (p : Program) (s : System) (names : List Meaning) (t : Statement) where
  abbrev pub OfReads : Spot → Type 0
  OfReads spot = ReadingElement p s names t spot ⊎ (ReadingLength p s names t spot ⊎ (ReadingField p s names t spot ⊎ ReadingStatic p s names t spot))

  abbrev pub OfWrites : Spot → Type 0
  OfWrites spot = WritingElement p s names t spot ⊎ (WritingField p s names t spot ⊎ (WritingStatic p s names t spot ⊎ MakingArray p s names t spot))

  abbrev pub OfDimensions : Spot → Type 0
  OfDimensions spot = MakingDimension p s names t spot ⊎ MakingInner p s names t spot

-- a touch of the statement
abbrev pub IsTouchAt : Program → System → List Meaning → Statement → Touch → Type 0
IsTouchAt p s names t touch =
    IsTouchOf t false (OfReads p s names t) touch ⊎ (IsTouchOf t true (OfWrites p s names t) touch ⊎ IsTouchOf t true (OfDimensions p s names t) touch)
