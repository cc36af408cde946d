-- What look-ups by number ask of the lists that they look in.
use Rattle.std.specs.Prelude.{◌≡◌, ◌<◌, ℕ, List, Some, AllPairs, slice_get}
use Rattle.class_form.specs.Classes.{HasCode}
use Rattle.class_form.specs.declared.body.Body.{Body}
use Rattle.class_form.specs.declared.body.Instr.{Instr}
use Rattle.class_form.specs.declared.class_file.ClassFile.{ClassFile}
use Rattle.class_form.specs.declared.class_file.CodeBody.{CodeBody}
use Rattle.class_form.specs.declared.class_file.Member.{Member}

-- bodies are in order of their methods
abbrev pub AreBodiesInOrder : List Body → Type 0
AreBodiesInOrder bodies = AllPairs (λ (a b : Body). a.method.0 < b.method.0) bodies

-- instructions are in order of their program counters
abbrev pub AreInstrsInOrder : List Instr → Type 0
AreInstrsInOrder instrs = AllPairs (λ (i j : Instr). i.pc < j.pc) instrs

-- the method at this place of the class has the code
abbrev pub IsCodeAt : ClassFile → ℕ → CodeBody → Type 0
IsCodeAt k place code = (x : Member) × (slice_get k.methods place ≡ Some x) × HasCode x code
