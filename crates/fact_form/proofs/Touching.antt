-- What defines or uses a location is a statement of a method that may run.
use Rattle.std.proofs.Common.{ℕ, inl, inr}
use Rattle.slicer_ids.specs.declared.ids.Statement.{Statement}
use Rattle.program_form.specs.Programs.{Program}
use Rattle.program_form.specs.Effects.{Location, IsStatement, StatementIs, Defines, ResultDefines, Uses, ResultUses, DefinesAtAll, UsesAtAll}
use Rattle.program_form.specs.Effects as effect

module _ (p : Program) (t : Statement) where
  pub any : (K : ℕ → Type 0) → StatementIs p t K → IsStatement p t
  any K h = (h.0, (h.1.0, h.1.1, h.1.2, tt))

  pub defines : (l : Location) → Defines p t l → IsStatement p t
  defines l (effect.field f st names may) = any _ st
  defines l (effect.element st may) = any _ st
  defines l (effect.static st is) = any _ st
  defines l (effect.array_length st) = any _ st
  defines l (effect.dimension_length st typed) = any _ st
  defines l (effect.dimension_elements st typed) = any _ st
  defines l (effect.outside st writes) = any _ st

  pub result_defines : (l : Location) → ResultDefines p t l → IsStatement p t
  result_defines l (effect.fresh_length st out typed lt) = any _ st
  result_defines l (effect.fresh_elements st out typed lt) = any _ st

  pub uses : (l : Location) → Uses p t l → IsStatement p t
  uses l (effect.field f st names may) = any _ st
  uses l (effect.element st may) = any _ st
  uses l (effect.length_of st may) = any _ st
  uses l (effect.static st is) = any _ st
  uses l (effect.outside st copies) = any _ st

  pub defining : (l : Location) → DefinesAtAll p t l → IsStatement p t
  defining l (inl d) = defines l d
  defining l (inr d) = result_defines l d

  pub using : (l : Location) → UsesAtAll p t l → IsStatement p t
  using l (inl u) = uses l u
  using l (inr u) = any _ u.2
