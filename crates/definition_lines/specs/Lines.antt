-- How the definitions that hold in a slot before an instruction are printed.
use Rattle.std.specs.Prelude.{ℕ, ◌-◌, List, [], ◌∷◌, ◌++◌, codes, nat_lt, if◌then◌else◌}
use Rattle.std.specs.List.{flat_map}
use Rattle.std.specs.Fmt.{decimal}
use Rattle.class_form.specs.declared.body.Def.{Def}
use Rattle.class_form.specs.declared.body.Def.TheVariants.{Formal, Value, Caught}

-- a definition: the number of an argument, or the program counter of an instruction or a handler
abbrev pub definition_text : Def → List ℕ
definition_text (Formal i) = codes "formal " ++ decimal i
definition_text (Value pc) = codes "value " ++ decimal pc
definition_text (Caught pc) = codes "caught " ++ decimal pc

abbrev pub later_text : Def → List ℕ
later_text d = codes ", " ++ definition_text d

abbrev pub definitions_text : List Def → List ℕ
definitions_text [] = codes "none"
definitions_text (d ∷ later) = definition_text d ++ flat_map later_text later

-- a slot, where so many are locals: a local or one of the stack, both from 0
abbrev pub slot_text : ℕ → ℕ → List ℕ
slot_text locals slot = if nat_lt slot locals then codes "local " ++ decimal slot else codes "stack " ++ decimal (slot - locals)

-- the definitions of a slot of a method that is printed so, before the instruction at a program counter
abbrev pub definitions_line : List ℕ → ℕ → ℕ → ℕ → List Def → List ℕ
definitions_line method locals pc slot defs =
    method ++ codes " " ++ decimal pc ++ codes " " ++ slot_text locals slot ++ codes ": " ++ definitions_text defs ++ codes "\n"
