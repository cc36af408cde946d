-- The signatures of virtual calls by number, and what classes select for them.
use Rattle.std.specs.Prelude.{◌≡◌, ℕ, List, Option, Some, None, slice_get}
use Rattle.slicer_ids.specs.Sets.{IsOrderedListOf}
use Rattle.slicer_ids.specs.declared.ids.ClassId.{ClassId}
use Rattle.slicer_ids.specs.declared.ids.MethodId.{MethodId}
use Rattle.slicer_ids.specs.declared.ids.Statement.{Statement}
use Rattle.class_form.specs.Pools.{MemberKey}
use Rattle.class_form.specs.Opcodes.{IsVirtualCall}
use Rattle.class_form.specs.Classes.{Declared, IsNamed}
use Rattle.class_form.specs.Resolution.{Selects, IsAbstractMethod}
use Rattle.program_form.specs.Programs.{Program}
use Rattle.program_form.specs.Statements.{HasOpcode, NamesMember}
use Rattle.program_form.specs.Facts.{IsTarget}
use Rattle.program_form.specs.Systems.{ForeignBefore}

-- the name and descriptor of a method that some virtual call names
abbrev pub IsSignature : Program → List ℕ × List ℕ → Type 0
IsSignature p nd =
    (t : Statement) × (key : MemberKey) × HasOpcode p t IsVirtualCall × NamesMember p t key × (key.name ≡ nd.0) × (key.descriptor ≡ nd.1)

-- signatures are numbered by the bytes of the name, then by those of the descriptor
abbrev pub SignatureNumber : Program → MemberKey → ℕ → Type 0
SignatureNumber p key g =
    (gs : List (List ℕ × List ℕ)) × IsOrderedListOf ForeignBefore gs (IsSignature p) × (slice_get gs g ≡ Some (key.name, key.descriptor))

-- the method that was selected: the target of calls, none where it is abstract
abbrev pub IsChoice : Program → Declared → Option MethodId → Type 0
IsChoice p d None = IsAbstractMethod p.classes d
IsChoice p d (Some t) = IsTarget p d t

-- the class selects a method of the folder for the signature
abbrev pub IsSelection : Program → ℕ → ClassId → Option MethodId → Type 0
IsSelection p g c o =
    (key : MemberKey) × (name : List ℕ) × (d : Declared) × SignatureNumber p key g × IsNamed p.classes name c.0
    × Selects p.classes name key (Some d) × IsChoice p d o
