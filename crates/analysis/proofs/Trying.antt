-- What is found of a program, and the line with which it is refused.
use Rattle.std.proofs.Common.{◌≡◌, ◌≤◌, ◌<◌, ◌^◌, ◌⊎◌, ℕ, List, Option, Some, None, length, refl, sym, ap, subst, ◌∙◌, inl, inr, arith}
use Rattle.slicer_ids.specs.declared.limits.LimitKind.{LimitKind}
use Rattle.slicer_ids.specs.declared.limits.LimitKind.TheVariants.{Methods, Sites, Locations}
use Rattle.class_form.specs.declared.class_file.ClassFile.{ClassFile}
use Rattle.class_form.specs.declared.body.Body.{Body}
use Rattle.dep_form.specs.declared.rules.TooMany.{TooMany}
use Rattle.dep_form.specs.declared.rules.TooMany.TheVariants.{NoMemory, Limit}
use Rattle.dep_form.specs.declared.solution.Solution.{Solution}
use Rattle.dep_form.specs.declared.system.System.{System}
use Rattle.dep_form.specs.declared.effects.ModRef.{ModRef}
use Rattle.dep_form.specs.Effects.{IsModRefOf, IsTraced as IsTracedBySystem}
use Rattle.dep_form.specs.Solutions.{IsSolutionOf}
use Rattle.dep_form.specs.Summaries.{HasSize}
use Rattle.program_form.specs.Programs.{Program}
use Rattle.program_form.specs.Effects.{IsTraced}
use Rattle.constraint_form.specs.ConstraintSystems.{IsConstraintSystem}
use Rattle.signature_tables.specs.Programs.{IsOfClasses}
use Rattle.constraints.specs.Programs as constraints
use Rattle.mod_ref.specs.Traced as traced
use Rattle.call_graph.specs.Refusals.{IsRefused, IsFirst}
use Rattle.call_graph.specs.declared.refusals.Refused.{Refused}
use Rattle.refusal_lines.specs.Refusals.{limit_refusal}
use Rattle.acceptance.specs.Programs.{AreFew, AreAtMost, AreTooMany, IsAnalysed, RefusesProgram}
use Rattle.acceptance.specs.Programs as tried
use Rattle.acceptance.specs.Statements.{IsStatementText, statement_refusal}
use Rattle.analysis.specs.Analysed.{IsAnalysisOf, IsManyLine}
use Rattle.analysis.proofs.Counting.{sites_many}

-- METHODS AND SITES

many_methods : (p : Program) (n : ℕ) → 2 ^ 16 < n → n ≡ length p.methods → RefusesProgram p (limit_refusal Methods n)
many_methods p n many e = subst (λ k. RefusesProgram p (limit_refusal Methods k)) (sym e) (tried.methods (subst (λ k. 2 ^ 16 < k) e many))

pub system_refused : (classes : List ClassFile) (bodies : List Body) (p : Program) (error : TooMany) (line : List ℕ) → IsOfClasses classes p → p.bodies ≡ bodies
    → constraints.IsTooMany classes bodies error → IsManyLine error line → RefusesProgram p line
system_refused classes bodies p NoMemory line of same many said = absurd said
system_refused classes bodies p (Limit kind n) line of same (inl (is, more, counted)) said =
    subst (RefusesProgram p) (sym (said ∙ ap (λ k. limit_refusal k n) is)) (many_methods p n more (counted p of))
system_refused classes bodies p (Limit kind n) line of same (inr (few, (is, more, counted))) said =
    let (hs, listed, size) = counted p of same in
    subst (RefusesProgram p) (sym (said ∙ ap (λ k. limit_refusal k n) is)) (tried.sites {n = n} (few p of) (sites_many p n hs listed size more))

-- LOCATIONS

pub effects_refused : (p : Program) (s : System) (error : TooMany) (line : List ℕ) → ((n : ℕ) → 2 ^ 20 < n → HasSize (IsTracedBySystem s) n → AreTooMany (IsTraced p) (2 ^ 20) n)
    → traced.IsTooMany s error → IsManyLine error line → (n : ℕ) × AreTooMany (IsTraced p) (2 ^ 20) n × (line ≡ limit_refusal Locations n)
effects_refused p s NoMemory line many too said = absurd said
effects_refused p s (Limit kind n) line many (is, more, size) said = (n, many n more size, said ∙ ap (λ k. limit_refusal k n) is)

-- PROGRAMS

module _ (p : Program) (few : AreFew p) where
  pub statement_refuses : (r : Refused) (text line : List ℕ) → IsFirst (IsRefused p) (Some r) → IsStatementText p r.place text → line ≡ statement_refusal r.kind text → RefusesProgram p line
  statement_refuses r text line first is e = subst (RefusesProgram p) (sym e) (tried.statement {r = r} {text = text} few first is)

  module _ (allowed : IsFirst (IsRefused p) None) where
    analysed : IsAnalysed p
    analysed = record { few = few; allowed = allowed }

    pub locations_refuse : (n : ℕ) (line : List ℕ) → AreTooMany (IsTraced p) (2 ^ 20) n → line ≡ limit_refusal Locations n → RefusesProgram p line
    locations_refuse n line many e = subst (RefusesProgram p) (sym e) (tried.locations {n = n} analysed many)

    pub analysis_of : (s : System) (sol : Solution) (mr : ModRef) → IsConstraintSystem p s → IsSolutionOf s sol → IsModRefOf s mr → AreAtMost (IsTraced p) (2 ^ 20) → IsAnalysisOf p s sol mr
    analysis_of s sol mr made solved described locations = record { constraints = made; solved = solved; effects = described; analysed = analysed; locations = locations }
