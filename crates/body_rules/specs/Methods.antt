-- The methods of a class file with code, and the bodies of their code.
use Rattle.std.specs.Prelude.{◌≡◌, ◌<◌, ℕ, List, Some, slice_get}
use Rattle.slicer_ids.specs.declared.ids.MethodId.{MethodId}
use Rattle.byte_form.specs.Places.{IsBytes}
use Rattle.class_form.specs.Classes.{HasCode}
use Rattle.class_form.specs.ClassRules.{Spells}
use Rattle.class_form.specs.declared.class_file.ClassFile.{ClassFile}
use Rattle.class_form.specs.declared.class_file.Member.{Member}
use Rattle.class_form.specs.declared.class_file.CodeBody.{CodeBody}
use Rattle.class_form.specs.declared.body.Body.{Body}
use Rattle.body_form.specs.Bodies.{IsBodyOf}

-- the number of the method at a place of the class's list
abbrev pub number_of : ℕ → MethodId
number_of place = record { 0 = place }

-- the method at a place, with its code
abbrev pub IsCoded : ClassFile → ℕ → Member → CodeBody → Type 0
IsCoded c place m code = (slice_get c.methods place ≡ Some m) × HasCode m code

-- the code of every method is of bytes
abbrev pub HasOctets : ClassFile → Type 0
HasOctets c = (place : ℕ) (m : Member) (code : CodeBody) → IsCoded c place m code → IsBytes code.code

-- its code has a body: instructions, a shape, and the definitions that reach its slots
abbrev pub HasBody : ClassFile → ℕ → Member → CodeBody → Type 0
HasBody c place m code = (b : Body) × IsBodyOf c.pool (number_of place) m code b

-- the code of every method has, and that of every method before a place
abbrev pub HaveBodies : ClassFile → Type 0
HaveBodies c = (place : ℕ) (m : Member) (code : CodeBody) → IsCoded c place m code → HasBody c place m code

abbrev pub HaveBodiesBefore : ClassFile → ℕ → Type 0
HaveBodiesBefore c end = (place : ℕ) (m : Member) (code : CodeBody) → place < end → IsCoded c place m code → HasBody c place m code

-- the bytes spell the class, and the code of all of its methods has bodies
pub record IsSound (bytes : List ℕ) (c : ClassFile) : Type 0 where
  pub octets : IsBytes bytes
  pub spells : Spells bytes c
  pub bodies : HaveBodies c
