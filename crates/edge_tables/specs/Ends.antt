-- What leaves a method.
use Rattle.std.specs.Prelude.{◌≡◌, ◌⊎◌, ℕ}
use Rattle.slicer_ids.specs.declared.ids.MethodId.{MethodId}
use Rattle.class_form.specs.Opcodes.{IsCall, IsThrow, IsValueReturn}
use Rattle.dep_form.specs.declared.node.Label.{Label}
use Rattle.dep_form.specs.declared.node.Label.TheVariants.{Thin}
use Rattle.dep_form.specs.declared.node.Node.{Node}
use Rattle.dep_form.specs.declared.node.Node.TheVariants.{Exception, Own, Return, Thrown}
use Rattle.program_form.specs.Nodes.{at}
use Rattle.program_form.specs.Programs.{Program}
use Rattle.program_form.specs.Statements.{HasOpcode, MayLeave}

-- what is returned flows to what the method answers; what is thrown, to what it throws
abbrev pub EndFlow : Program → MethodId → Node → Node → Label → Type 0
EndFlow p m k j l =
    (pc : ℕ) × (l ≡ Thin)
    × ((HasOpcode p (at m pc) IsValueReturn × (k ≡ Own pc) × (j ≡ Return))
    ⊎ (MayLeave p (at m pc) × (j ≡ Thrown)
    × ((HasOpcode p (at m pc) IsThrow × (k ≡ Own pc)) ⊎ (HasOpcode p (at m pc) IsCall × (k ≡ Exception pc)))))
