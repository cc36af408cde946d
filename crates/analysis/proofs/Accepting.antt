-- A program that was analysed, and the folder that it is of, are accepted or refused by what its facts have.
use Rattle.std.proofs.Common.{◌≡◌, ℕ, List, Option, Some, None, sym, subst}
use Rattle.std.specs.Prelude.{IfSome}
use Rattle.slicer_ids.specs.declared.limits.LimitKind.{LimitKind}
use Rattle.edge_io.specs.Files.{Files}
use Rattle.dep_form.specs.declared.rules.TooMany.TheVariants.{Limit}
use Rattle.dep_form.specs.declared.solution.Solution.{Solution}
use Rattle.dep_form.specs.declared.system.System.{System}
use Rattle.dep_form.specs.declared.effects.ModRef.{ModRef}
use Rattle.program_form.specs.Programs.{Program}
use Rattle.fact_form.specs.FactLimits.{IsTooMany, IsWithinLimits}
use Rattle.refusal_lines.specs.Refusals.{limit_refusal}
use Rattle.acceptance.specs.Programs.{IsAccepted, RefusesProgram}
use Rattle.acceptance.specs.Programs as tried
use Rattle.acceptance.specs.Refusals.{Accepts, IsRefusal, of_classes, program}
use Rattle.folder_loader.specs.Loading.{IsProgramIn}
use Rattle.analysis.specs.Analysed.{IsAnalysisOf}

module _ (p : Program) (s : System) (sol : Solution) (mr : ModRef) (is : IsAnalysisOf p s sol mr) where
  pub facts_refuse : (kind : LimitKind) (n : ℕ) → IsTooMany p (Limit kind n) → RefusesProgram p (limit_refusal kind n)
  facts_refuse kind n many = tried.facts {kind = kind} {n = n} is.analysed is.locations many

  pub facts_accept : IsWithinLimits p → IsAccepted p
  facts_accept within = record { analysed = is.analysed; locations = is.locations; facts = within }

module _ (folder : List ℕ) (main : Option (List ℕ)) (p : Program) where
  pub folder_refused : (files : Option Files) (line : List ℕ) → IfSome files (λ m. IsProgramIn m folder main p) → RefusesProgram p line → IfSome files (λ m. IsRefusal m folder main line)
  folder_refused None line is refused = tt
  folder_refused (Some m) line (classes, found, is) refused = of_classes {files = classes} found (program is refused)

  pub folder_accepted : (files : Option Files) → IfSome files (λ m. IsProgramIn m folder main p) → IsAccepted p → IfSome files (λ m. Accepts m folder main p)
  folder_accepted None is accepted = tt
  folder_accepted (Some m) (classes, found, is) accepted = record { files = classes; found = found; program = is; accepted = accepted }
