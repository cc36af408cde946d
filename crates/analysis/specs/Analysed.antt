-- What is found of a program, and why it is refused.
use Rattle.std.specs.Prelude.{◌≡◌, ◌^◌, ℕ, List, Option}
use Rattle.dep_form.specs.Effects.{IsModRefOf}
use Rattle.dep_form.specs.Solutions.{IsSolutionOf}
use Rattle.dep_form.specs.declared.effects.ModRef.{ModRef}
use Rattle.dep_form.specs.declared.rules.TooMany.{TooMany}
use Rattle.dep_form.specs.declared.rules.TooMany.TheVariants.{NoMemory, Limit}
use Rattle.dep_form.specs.declared.solution.Solution.{Solution}
use Rattle.dep_form.specs.declared.system.System.{System}
use Rattle.program_form.specs.Programs.{Program}
use Rattle.program_form.specs.Effects.{IsTraced}
use Rattle.constraint_form.specs.ConstraintSystems.{IsConstraintSystem}
use Rattle.refusal_lines.specs.Refusals.{limit_refusal}
use Rattle.acceptance.specs.Programs.{AreAtMost, IsAnalysed}
use Rattle.folder_loader.specs.Loading.{HasParts, IsLoaded}
use Rattle.folder_loader.specs.declared.parts.Loaded.{Loaded}

-- what was loaded are the parts of the program
pub record IsOf (l : Loaded) (p : Program) : Type 0 where
  pub parts : HasParts l.hierarchy l.bodies.items l.entries p
  pub main : Option (List ℕ)
  pub loaded : IsLoaded main p

-- the system is that of the program, with its solution, and what its methods change and read; the program is within the limits of
-- methods, of sites and of locations, and no statement of it that is reached is refused
pub record IsAnalysisOf (p : Program) (s : System) (sol : Solution) (mr : ModRef) : Type 0 where
  pub constraints : IsConstraintSystem p s
  pub solved : IsSolutionOf s sol
  pub effects : IsModRefOf s mr
  pub analysed : IsAnalysed p
  pub locations : AreAtMost (IsTraced p) (2 ^ 20)

-- what is said of a limit; want of memory says nothing
abbrev pub IsManyLine : TooMany → List ℕ → Type 0
IsManyLine NoMemory line = ⊥
IsManyLine (Limit kind n) line = line ≡ limit_refusal kind n
