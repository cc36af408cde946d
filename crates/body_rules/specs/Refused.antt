-- With which line the file of a class is refused: at its first fault or, where it spells a class, at that of its code.
use Rattle.std.specs.Prelude.{◌≡◌, ℕ, List, Some}
use Rattle.byte_form.specs.Places.{IsBytes}
use Rattle.class_form.specs.Pools.{utf_at}
use Rattle.class_form.specs.ClassRules.{Spells}
use Rattle.class_form.specs.FirstFaults.{ClassFault}
use Rattle.class_form.specs.FirstFaults as faults
use Rattle.class_form.specs.declared.class_file.ClassFile.{ClassFile}
use Rattle.class_form.specs.declared.class_file.Member.{Member}
use Rattle.class_form.specs.declared.class_file.CodeBody.{CodeBody}
use Rattle.class_form.specs.declared.code_error.CodeError.{CodeError}
use Rattle.body_form.specs.Bodies.{IsFirstFault}
use Rattle.refusal_lines.specs.Refusals.{file_refusal, method_refusal}
use Rattle.body_rules.specs.Methods.{IsCoded, HaveBodiesBefore}

-- the first method in the order of the file whose code has a fault, by its name and descriptor, and the first fault of its code
pub record IsFirstBadCode (c : ClassFile) (name descriptor : List ℕ) (fault : CodeError) : Type 0 where
  pub place : ℕ
  pub method : Member
  pub code : CodeBody
  pub there : IsCoded c place method code
  pub named : utf_at c.pool method.name ≡ Some name
  pub typed : utf_at c.pool method.descriptor ≡ Some descriptor
  pub faulty : IsFirstFault c.pool code fault
  pub before : HaveBodiesBefore c place

-- the file at a path with these bytes is refused with a line
pub data Refuses (path bytes : List ℕ) : List ℕ → Type 0 where
  no_class : (fault : ClassFault) → IsBytes bytes → faults.IsFirstFault bytes fault → Refuses path bytes (file_refusal path fault)
  bad_code : (c : ClassFile) (name descriptor : List ℕ) (fault : CodeError) → IsBytes bytes → Spells bytes c → IsFirstBadCode c name descriptor fault
      → Refuses path bytes (method_refusal path name descriptor fault)

-- the code of the method at the place is refused with the line
pub record IsRefusedAt (path : List ℕ) (c : ClassFile) (place : ℕ) (line : List ℕ) : Type 0 where
  pub method : Member
  pub code : CodeBody
  pub name : List ℕ
  pub descriptor : List ℕ
  pub fault : CodeError
  pub there : IsCoded c place method code
  pub named : utf_at c.pool method.name ≡ Some name
  pub typed : utf_at c.pool method.descriptor ≡ Some descriptor
  pub faulty : IsFirstFault c.pool code fault
  pub said : line ≡ method_refusal path name descriptor fault

-- the code of a method of the class is the first that is refused, with the line
abbrev pub IsBadLine : List ℕ → ClassFile → List ℕ → Type 0
IsBadLine path c line =
    (name : List ℕ) × (descriptor : List ℕ) × (fault : CodeError) × IsFirstBadCode c name descriptor fault × (line ≡ method_refusal path name descriptor fault)
