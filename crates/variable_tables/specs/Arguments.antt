-- How many arguments methods and calls have, a receiver counted.
use Rattle.std.specs.Prelude.{◌≡◌, ◌⊎◌, ◌+◌, ℕ, List, Option, Some, None, length}
use Rattle.class_form.specs.Pools.{descriptor_at}
use Rattle.class_form.specs.Types.{IsMethodType}
use Rattle.class_form.specs.Classes.{IsStatic}
use Rattle.class_form.specs.Opcodes.{IsInstanceCall}
use Rattle.class_form.specs.declared.pool.Pool.{Pool}
use Rattle.class_form.specs.declared.class_file.Member.{Member}
use Rattle.class_form.specs.declared.body.Instr.{Instr}
use Rattle.class_form.specs.declared.types.MethodType.{MethodType}
use Rattle.body_form.specs.Bodies.{HasType}

-- the number of the arguments of a method descriptor; none where the bytes are none
abbrev pub IsCountOf : List ℕ → Option ℕ → Type 0
IsCountOf bytes None = (t : MethodType) → IsMethodType bytes t → ⊥
IsCountOf bytes (Some n) = (t : MethodType) × IsMethodType bytes t × (n ≡ length t.arguments)

-- so many, or one more where there is a receiver
abbrev pub IsWithReceiver : Type 0 → Type 0 → ℕ → ℕ → Type 0
IsWithReceiver Without With count n = (Without × (n ≡ count)) ⊎ (With × (n ≡ 1 + count))

-- the method's arguments are so many
abbrev pub AreFormals : Pool → Member → ℕ → Type 0
AreFormals pool x n = (t : MethodType) × HasType pool x t × IsWithReceiver (IsStatic x.flags) (IsStatic x.flags → ⊥) (length t.arguments) n

-- the call names a method with so many arguments; or what it names has no descriptor of a method
abbrev pub AreArgumentsOf : Pool → Instr → ℕ → Type 0
AreArgumentsOf pool i n =
    ((bytes : List ℕ) × (t : MethodType) × (descriptor_at pool i.index ≡ Some bytes) × IsMethodType bytes t
    × IsWithReceiver (IsInstanceCall i.op → ⊥) (IsInstanceCall i.op) (length t.arguments) n)
    ⊎ (((bytes : List ℕ) (t : MethodType) → descriptor_at pool i.index ≡ Some bytes → IsMethodType bytes t → ⊥) × (n ≡ 0))
