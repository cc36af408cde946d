-- The program of a folder, with its facts.
use Rattle.std.proofs.Common.{◌≡◌, ℕ, List, Option, Result, Ok, Err, sym, subst, ◌∙◌}
use Rattle.std.specs.Prelude.{IfOk, IfSome}
use Rattle.edge_io.specs.Files.{Files}
use Rattle.class_form.specs.declared.class_file.ClassFile.{ClassFile}
use Rattle.dep_form.specs.declared.facts.Facts.{Facts}
use Rattle.dep_form.specs.declared.rules.TooMany.{TooMany}
use Rattle.dep_form.specs.declared.rules.TooMany.TheVariants.{NoMemory, Limit}
use Rattle.dep_form.specs.declared.solution.Solution.{Solution}
use Rattle.dep_form.specs.declared.system.System.{System}
use Rattle.dep_form.specs.declared.effects.ModRef.{ModRef}
use Rattle.program_form.specs.Programs.{Program}
use Rattle.program_form.specs.Graphs.{Numbering, AreFactsOf}
use Rattle.fact_form.specs.FactLimits.{IsTooMany}
use Rattle.acceptance.specs.Programs.{IsAccepted, RefusesProgram}
use Rattle.acceptance.specs.Refusals.{Accepts}
use Rattle.folder_loader.specs.Loading.{IsLoaded, IsProgramIn}
use Rattle.folder_loader.specs.declared.error.LoadError.{LoadError}
use Rattle.folder_loader.specs.declared.parts.Loaded.{Loaded}
use Rattle.analysis.specs.Analysed.{IsOf, IsAnalysisOf, IsManyLine}
use Rattle.analysis.specs.declared.analysing.Analysed.{Analysed}
use Rattle.analysis.proofs.Accepting.{facts_refuse, folder_accepted}
use Rattle.program_loader.specs.Accepted.{IsWhole}

pub facts_refused : (p : Program) (s : System) (sol : Solution) (mr : ModRef) (error : TooMany) (line : List ℕ) → IsAnalysisOf p s sol mr → IsTooMany p error → IsManyLine error line → RefusesProgram p line
facts_refused p s sol mr NoMemory line is many said = absurd said
facts_refused p s sol mr (Limit kind n) line is many said = subst (RefusesProgram p) (sym said) (facts_refuse p s sol mr is kind n many)

-- what is answered
pub whole_told : (files : Option Files) (folder : List ℕ) (main : Option (List ℕ)) (l : Loaded) (p : Program) → IsOf l p → IsLoaded main p → IfSome files (λ m. IsProgramIn m folder main p)
    → (r : Result (List ClassFile × Facts) LoadError) → IfOk r (λ x. x.0 ≡ l.hierarchy) → IfOk r (λ x. IsAccepted p × ((ns : Numbering) × AreFactsOf p ns x.1))
    → IfOk r (λ x. (p : Program) × IsWhole main x.0 x.1 p × IfSome files (λ m. Accepts m folder main p))
whole_told files folder main l p is loaded told (Ok x) same (accepted, (ns, facts)) =
    (p, record { classes_are = is.parts.classes_are ∙ sym same; loaded = loaded; accepted = accepted; numbers = ns; facts = facts }, folder_accepted folder main p files told accepted)
whole_told files folder main l p is loaded told (Err e) same h = h

-- .. of one program
pub known_of : (l : Loaded) (a : Analysed) (p : Program) → IsOf l p → IsAnalysisOf p a.system a.solution a.effects → (r : Result (List ClassFile × Facts) LoadError)
    → IfOk r (λ x. (p : Program) → IsOf l p → IsAnalysisOf p a.system a.solution a.effects → IsAccepted p × ((ns : Numbering) × AreFactsOf p ns x.1))
    → IfOk r (λ x. IsAccepted p × ((ns : Numbering) × AreFactsOf p ns x.1))
known_of l a p is known (Ok x) h = h p is known
known_of l a p is known (Err e) h = h
