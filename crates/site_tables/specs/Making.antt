-- What statements make: arrays, each of which holds the next, and then an object.
use Rattle.std.specs.Prelude.{◌≡◌, ◌⊎◌, ◌↔◌, ◌<◌, ◌+◌, ℕ, List, Option, Some, None, option_map, option_and_then}
use Rattle.slicer_ids.specs.declared.ids.Statement.{Statement}
use Rattle.class_form.specs.Pools.{constant_at, class_at, descriptor_at}
use Rattle.class_form.specs.Opcodes.{IsNew, IsNewArray, IsMultiNewArray, IsConstant, IsCall, IsGetStatic, IsGetField}
use Rattle.class_form.specs.Types.{NamesType, IsFieldType, IsArrayType, IsMethodType}
use Rattle.class_form.specs.declared.pool.Pool.{Pool}
use Rattle.class_form.specs.declared.types.BaseType.{BaseType}
use Rattle.class_form.specs.declared.types.BaseType.TheVariants.{Primitive, Class}
use Rattle.class_form.specs.declared.types.FieldType.{FieldType}
use Rattle.class_form.specs.declared.types.MethodType.{MethodType}
use Rattle.program_form.specs.Programs.{Program}
use Rattle.program_form.specs.Sites.{Made, HasType, IsArraySite, IsObjectOf, class_of_constant}
use Rattle.site_tables.specs.declared.fresh.Fresh.{Fresh}
use Rattle.site_tables.specs.declared.kind.Kind.{Kind as MakerKind}
use Rattle.site_tables.specs.declared.kind.Kind.TheVariants.{Constant, Field, Call, New, Array, Dimensions, Other}

-- the name of a base type that is a class
abbrev pub class_name_of : BaseType → Option (List ℕ)
class_name_of (Primitive letter) = None
class_name_of (Class name) = Some name

-- the class of the object after the arrays
abbrev pub class_in : Fresh → Option (List ℕ)
class_in x = option_map (λ c. c.now) x.class

abbrev pub objects_of : Option (List ℕ) → ℕ
objects_of None = 0
objects_of (Some name) = 1

abbrev pub count_of : Fresh → ℕ
count_of x = x.dims + objects_of (class_in x)

abbrev pub IsNothing : Fresh → Type 0
IsNothing x = (x.dims ≡ 0) × (class_in x ≡ None)

-- what a value of the type has afresh: an array for each dimension, and an object of the base type where that is a class
abbrev pub IsFresh : FieldType → Fresh → Type 0
IsFresh t x = (x.dims ≡ t.dims) × (class_in x ≡ class_name_of t.base)

-- .. of a type of which Is holds; nothing where there is none
abbrev pub IsFreshOf : (FieldType → Type 0) → Fresh → Type 0
IsFreshOf Is x = ((t : FieldType) × Is t × IsFresh t x) ⊎ (((t : FieldType) → Is t → ⊥) × IsNothing x)

-- the type is the result of the method type with this descriptor
abbrev pub IsResultOf : List ℕ → FieldType → Type 0
IsResultOf bytes t = (m : MethodType) × IsMethodType bytes m × (m.result ≡ Some t)

abbrev pub OutcomeFresh : Option FieldType → Fresh → Type 0
OutcomeFresh None x = IsNothing x
OutcomeFresh (Some t) x = IsFresh t x

-- the first thing that a value of the type has: an array, or an object of the class
abbrev pub IsFirst : FieldType → Fresh → Type 0
IsFirst t x =
    ((0 < t.dims) × (x.dims ≡ 1) × (class_in x ≡ None))
    ⊎ ((t.dims ≡ 0) × (x.dims ≡ 0) × ((name : List ℕ) × (t.base ≡ Class name) × (class_in x ≡ Some name)))

-- what `new` of the type makes that the text names
abbrev pub IsNewOf : List ℕ → Fresh → Type 0
IsNewOf text x = ((t : FieldType) × NamesType text t × IsFirst t x) ⊎ (((t : FieldType) → NamesType text t → ⊥) × IsNothing x)

-- so many arrays, where the text is the descriptor of an array
abbrev pub IsArrayOf : List ℕ → ℕ → Fresh → Type 0
IsArrayOf text dims x =
    ((t : FieldType) × IsArrayType text t × (x.dims ≡ dims) × (class_in x ≡ None)) ⊎ (((t : FieldType) → IsArrayType text t → ⊥) × IsNothing x)

-- the same of what an index of the constant pool leads to
abbrev pub IsLoaded : Pool → ℕ → Fresh → Type 0
IsLoaded pool i x = (x.dims ≡ 0) × (class_in x ≡ option_and_then class_of_constant (constant_at pool i))

abbrev pub IsOf : (List ℕ → Fresh → Type 0) → Option (List ℕ) → Fresh → Type 0
IsOf Is None x = IsNothing x
IsOf Is (Some text) x = Is text x

abbrev pub IsNewAt : Pool → ℕ → Fresh → Type 0
IsNewAt pool i = IsOf IsNewOf (class_at pool i)

abbrev pub IsArrayAt : Pool → ℕ → ℕ → Fresh → Type 0
IsArrayAt pool i dims = IsOf (λ text. IsArrayOf text dims) (class_at pool i)

abbrev pub FieldIn : Pool → ℕ → FieldType → Type 0
FieldIn pool i t = (bytes : List ℕ) × (descriptor_at pool i ≡ Some bytes) × IsFieldType bytes t

abbrev pub ResultIn : Pool → ℕ → FieldType → Type 0
ResultIn pool i t = (bytes : List ℕ) × (descriptor_at pool i ≡ Some bytes) × IsResultOf bytes t

-- the sites of a statement are those of what it makes, from the outer one on
pub record AreMade (p : Program) (t : Statement) (x : Fresh) : Type 0 where
  pub each : (k : ℕ) → (k < count_of x) ↔ ((u : FieldType) × HasType p (Made t k) u)
  pub arrays : (k : ℕ) → (k < x.dims) ↔ IsArraySite p (Made t k)
  pub objects : (k : ℕ) (name : List ℕ) → ((k ≡ x.dims) × (class_in x ≡ Some name)) ↔ IsObjectOf p (Made t k) name

abbrev pub IsReader : ℕ → Type 0
IsReader op = IsGetStatic op ⊎ IsGetField op

-- an instruction of the opcode may have a site
abbrev pub IsMaker : ℕ → Type 0
IsMaker op = IsConstant op ⊎ (IsReader op ⊎ (IsCall op ⊎ (IsNew op ⊎ (IsNewArray op ⊎ IsMultiNewArray op))))

abbrev pub IsKind : ℕ → MakerKind → Type 0
IsKind op Constant = IsConstant op
IsKind op Field = IsReader op
IsKind op Call = IsCall op
IsKind op New = IsNew op
IsKind op Array = IsNewArray op
IsKind op Dimensions = IsMultiNewArray op
IsKind op Other = IsMaker op → ⊥
