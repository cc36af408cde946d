-- Jumps to where instructions begin.
use Rattle.std.specs.Prelude.{◌≡◌, ◌++◌, ◌∷◌, ℕ, Bool, true, false, List, All, Contains, map, slice_index_or}
use Rattle.class_form.specs.declared.body.Instr.{Instr}
use Rattle.class_form.specs.declared.code_error.CodeError.{CodeError}
use Rattle.class_form.specs.declared.code_error.CodeError.TheVariants.{Broken}

-- where instructions begin
abbrev pub pcs : List Instr → List ℕ
pcs is = map (λ i. i.pc) is

abbrev pub IsMarked : List Bool → ℕ → Type 0
IsMarked marks pc = slice_index_or marks pc false ≡ true

-- each jump of the instruction leads to one of the places
abbrev pub JumpsWell : List ℕ → Instr → Type 0
JumpsWell places i = All (Contains places) i.targets

-- the refusal of the first instruction with a jump that leads to none of the places
abbrev pub MissesFirst : List ℕ → List Instr → CodeError → Type 0
MissesFirst places is fault =
    (before : List Instr) × (i : Instr) × (after : List Instr) × (is ≡ before ++ i ∷ after) × All (JumpsWell places) before
    × ((target : ℕ) × Contains i.targets target × (Contains places target → ⊥)) × (fault ≡ Broken 5 i.pc)
