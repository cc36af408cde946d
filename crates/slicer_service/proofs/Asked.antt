-- What a run comes to, from what its words ask for.
use Rattle.std.proofs.Common.{◌≡◌, ◌⊎◌, ◌≤◌, ℕ, Bool, List, Option, Some, None, IfSome, refl, sym, ap, subst, ◌∙◌, inl, inr, unwrap_or, arith}
use Rattle.std.specs.FinMap as map
use Rattle.edge_io.specs.Files.{Files}
use Rattle.edge_io.specs.Reads.{appended}
use Rattle.program_form.specs.Programs.{Program}
use Rattle.acceptance.specs.Refusals.{Accepts, IsRefusal}
use Rattle.words.specs.declared.request.Request.{Request}
use Rattle.words.specs.declared.request.WordsError.{WordsError}
use Rattle.words.specs.declared.request.WordsError.TheVariants as why
use Rattle.words.specs.Scripts.{AreScripts}
use Rattle.words.specs.Asking.{asked}
use Rattle.run_form.specs.Said.{usage_line}
use Rattle.run_form.specs.Outputs.{AreFiles, AreFree, IsPathFault, no_script, no_output}
use Rattle.run_form.specs.Runs.{IsAccepted, Runs, usage, no_folder, refused, no_path, served, RunOf}
use Rattle.run_form.specs.Endings.{RunsAs, AreSteady, SaysFault, Says}
use Rattle.slicer_service.proofs.Decided.{are_scripts}

pub same_request : (o : Option Request) (r s : Request) → o ≡ Some r → o ≡ Some s → r ≡ s
same_request o r s first second = ap (λ (x : Option Request). unwrap_or x r) (sym first ∙ second)

-- what the run of a request is, that of words is that ask for it
pub by_words : (o : Option Request) (r : Request) → o ≡ Some r → (P : Option Request → Type 0) → P (Some r) → P o
by_words o r is P h = subst P (sym is) h

-- ---- steady ends
pub headline : (files after : Option Files) (said said_after : Option (List ℕ)) (sources sinks : List ℕ → Bool) (r : Request) (status : ℕ) →
    (status ≡ 0) ⊎ ((status ≡ 1) ⊎ ((status ≡ 3) ⊎ ((status ≡ 4) ⊎ (status ≡ 5)))) →
    (status ≡ 0 → RunsAs files after said said_after (Some r) 0) → (status ≡ 3 → RunsAs files after said said_after (Some r) 3) → (status ≡ 4 → RunsAs files after said said_after (Some r) 4) →
    (status ≡ 5 → AreSteady sources sinks r.scripts → ⊥) → AreSteady sources sinks r.scripts → (status ≡ 1) ⊎ RunsAs files after said said_after (Some r) status
headline files after said said_after sources sinks r status (inl e) zero three four five steady = inr (subst (λ (n : ℕ). RunsAs files after said said_after (Some r) n) (sym e) (zero e))
headline files after said said_after sources sinks r status (inr (inl e)) zero three four five steady = inl e
headline files after said said_after sources sinks r status (inr (inr (inl e))) zero three four five steady = inr (subst (λ (n : ℕ). RunsAs files after said said_after (Some r) n) (sym e) (three e))
headline files after said said_after sources sinks r status (inr (inr (inr (inl e)))) zero three four five steady = inr (subst (λ (n : ℕ). RunsAs files after said said_after (Some r) n) (sym e) (four e))
headline files after said said_after sources sinks r status (inr (inr (inr (inr e)))) zero three four five steady = absurd (five e steady)

-- what laws of other crates say
abbrev pub OneRun : Type 0
OneRun = (m : Files) (asked : Option Request) (s t : ℕ) (said told : List ℕ) (a b : Files) → RunOf m asked s said a → RunOf m asked t told b → (s ≡ t) × (said ≡ told) × ((path : List ℕ) → map.get a path ≡ map.get b path)

abbrev pub NotBoth : Type 0
NotBoth = (m : Files) (folder : List ℕ) (main : Option (List ℕ)) (a : List ℕ) (p : Program) → IsRefusal m folder main a → Accepts m folder main p → ⊥

pub complete : OneRun → (files after : Option Files) (said said_after : Option (List ℕ)) (r : Request) (status : ℕ) → (status ≡ 1) ⊎ RunsAs files after said said_after (Some r) status →
    IfSome files (λ m. (s : ℕ) (told : List ℕ) (left : Files) → RunOf m (Some r) s told left → (status ≡ s) ⊎ (status ≡ 1))
complete law None after said said_after r status h = tt
complete law (Some m) after said said_after r status (inl e) = λ s told left run. inr e
complete law (Some m) after said said_after r status (inr k) = λ s told left run. inl (law m (Some r) status s k.0 told k.1 left k.2 run).0

-- where no path fails, none of these faults is there
no_fault : (m : Files) (scripts : List (List ℕ)) (after : Files) → AreFiles m scripts → AreFree m scripts → IsPathFault m scripts after → ⊥
no_fault m scripts _ files free (no_script k script at missing) = missing (files k script at)
no_fault m scripts after files free (no_output {k} there first out) = free k first.script first.there first.folder

-- an accepted folder whose scripts are files, and whose outputs no folders
accepted_runs : NotBoth → (m : Files) (r : Request) (status : ℕ) (told : List ℕ) (left : Files) → AreScripts r.scripts → IsAccepted m r → AreFiles m r.scripts → AreFree m r.scripts → Runs m r status told left → status ≡ 0
accepted_runs law m r _ _ _ fit is files free (usage none) = absurd (none fit)
accepted_runs law m r _ _ _ fit is files free (no_folder ok none) = absurd (none is.1.found.2.walk.0)
accepted_runs law m r _ _ _ fit is files free (refused {text} ok refuses) = absurd (law m r.folder r.main text is.0 refuses is.1)
accepted_runs law m r _ _ left fit is files free (no_path ok accepted fault) = absurd (no_fault m r.scripts left files free fault)
accepted_runs law m r _ _ _ fit is files free (served ok its all) = refl

pub accepted : NotBoth → (files after : Option Files) (said said_after : Option (List ℕ)) (r : Request) (status : ℕ) → AreScripts r.scripts → (status ≡ 1) ⊎ RunsAs files after said said_after (Some r) status →
    IfSome files (λ m. IsAccepted m r → AreFiles m r.scripts → AreFree m r.scripts → (status ≡ 0) ⊎ (status ≡ 1))
accepted law None after said said_after r status fit h = tt
accepted law (Some m) after said said_after r status fit (inl e) = λ is there free. inr e
accepted law (Some m) after said said_after r status fit (inr k) = λ is there free. inl (accepted_runs law m r status k.0 k.1 fit is there free k.2)

-- ---- words that ask for nothing
-- the request is none whose scripts can be served
abbrev pub IsUnfit : Option Request → Type 0
IsUnfit o = (r : Request) → o ≡ Some r → AreScripts r.scripts → ⊥

abbrev pub IsSaidOf : WordsError → ℕ → List ℕ → Type 0
IsSaidOf error status told = SaysFault status told ⊎ ((status ≡ 2) × (told ≡ usage_line) × (error ≡ why.Usage))

pub says_unasked : (o : Option Request) (files after : Option Files) (sources sinks : List ℕ → Bool) (error : WordsError) (status : ℕ) (told : List ℕ) → (error ≡ why.Usage → IsUnfit o) → IsSaidOf error status told →
    Says files after sources sinks o status told
says_unasked None files after sources sinks error status told unfit (inl fault) = inr fault
says_unasked None files after sources sinks error status told unfit (inr k) = inl (k.0, k.1)
says_unasked (Some r) files after sources sinks error status told unfit (inl fault) = elim (are_scripts r.scripts) [
  | inl fit ↦ inr (fit, inl (inl fault))
  | inr none ↦ inl (none, inr fault)
]
says_unasked (Some r) files after sources sinks error status told unfit (inr k) = inl (unfit k.2 r refl, inl (k.0, k.1))

pub unasked_kinds : (error : WordsError) (status : ℕ) (told : List ℕ) → IsSaidOf error status told → (status ≡ 2) ⊎ ((status ≡ 1) ⊎ (status ≡ 3))
unasked_kinds error status told (inl (inl k)) = inr (inl k.0)
unasked_kinds error status told (inl (inr k)) = inr (inr k.0)
unasked_kinds error status told (inr k) = inl k.0

pub usage_said : (error : WordsError) (status : ℕ) (told : List ℕ) → IsSaidOf error status told → status ≡ 2 → (told ≡ usage_line) × (error ≡ why.Usage)
usage_said error status told (inl (inl k)) e = absurd (omega (arith, k.0, e))
usage_said error status told (inl (inr k)) e = absurd (omega (arith, k.0, e))
usage_said error status told (inr k) e = (k.1, k.2)

-- over a steady host such a run is what its definition gives: it says how the program is called, or it had no memory
usage_run : (m : Files) (o : Option Request) → IsUnfit o → RunOf m o 2 usage_line m
usage_run m None unfit = (refl, refl, refl)
usage_run m (Some r) unfit = usage (unfit r refl)

pub usage_as : (files after : Option Files) (said said_after : Option (List ℕ)) (o : Option Request) → IsUnfit o → after ≡ files → said_after ≡ appended usage_line said → RunsAs files after said said_after o 2
usage_as None after said said_after o unfit same told = tt
usage_as (Some m) after said said_after o unfit same told = (usage_line, m, usage_run m o unfit, same, told)

pub steady_unasked : (files after : Option Files) (said said_after : Option (List ℕ)) (o : Option Request) (error : WordsError) (status : ℕ) (told : List ℕ) → (error ≡ why.Usage → IsUnfit o) → after ≡ files →
    said_after ≡ appended told said → IsSaidOf error status told → (status ≡ 1) ⊎ (status ≡ 2) → (status ≡ 1) ⊎ RunsAs files after said said_after o status
steady_unasked files after said said_after o error status told unfit same line_said is (inl e) = inl e
steady_unasked files after said said_after o error status told unfit same line_said is (inr e) =
    let k = usage_said error status told is e in
    inr (subst (λ (n : ℕ). RunsAs files after said said_after o n) (sym e) (usage_as files after said said_after o (unfit k.1) same (line_said ∙ ap (λ (t : List ℕ). appended t said) k.0)))

-- ---- statuses
pub not_usage : (status : ℕ) → (status ≡ 0) ⊎ ((status ≡ 1) ⊎ ((status ≡ 3) ⊎ ((status ≡ 4) ⊎ (status ≡ 5)))) → status ≡ 2 → ⊥
not_usage status (inl e) f = omega (arith, e, f)
not_usage status (inr (inl e)) f = omega (arith, e, f)
not_usage status (inr (inr (inl e))) f = omega (arith, e, f)
not_usage status (inr (inr (inr (inl e)))) f = omega (arith, e, f)
not_usage status (inr (inr (inr (inr e)))) f = omega (arith, e, f)

pub served_status : (status : ℕ) → (status ≡ 0) ⊎ ((status ≡ 1) ⊎ ((status ≡ 3) ⊎ ((status ≡ 4) ⊎ (status ≡ 5)))) → status ≤ 5
served_status status (inl e) = omega (arith, e)
served_status status (inr (inl e)) = omega (arith, e)
served_status status (inr (inr (inl e))) = omega (arith, e)
served_status status (inr (inr (inr (inl e)))) = omega (arith, e)
served_status status (inr (inr (inr (inr e)))) = omega (arith, e)

pub unasked_status : (status : ℕ) → (status ≡ 2) ⊎ ((status ≡ 1) ⊎ (status ≡ 3)) → status ≤ 5
unasked_status status (inl e) = omega (arith, e)
unasked_status status (inr (inl e)) = omega (arith, e)
unasked_status status (inr (inr e)) = omega (arith, e)

-- a run whose words ask for nothing has none of these statuses
not_status : (status n : ℕ) → (n ≡ 0) ⊎ ((n ≡ 4) ⊎ (n ≡ 5)) → (status ≡ 2) ⊎ ((status ≡ 1) ⊎ (status ≡ 3)) → status ≡ n → ⊥
not_status status n (inl k) (inl e) f = omega (arith, k, e, f)
not_status status n (inl k) (inr (inl e)) f = omega (arith, k, e, f)
not_status status n (inl k) (inr (inr e)) f = omega (arith, k, e, f)
not_status status n (inr (inl k)) (inl e) f = omega (arith, k, e, f)
not_status status n (inr (inl k)) (inr (inl e)) f = omega (arith, k, e, f)
not_status status n (inr (inl k)) (inr (inr e)) f = omega (arith, k, e, f)
not_status status n (inr (inr k)) (inl e) f = omega (arith, k, e, f)
not_status status n (inr (inr k)) (inr (inl e)) f = omega (arith, k, e, f)
not_status status n (inr (inr k)) (inr (inr e)) f = omega (arith, k, e, f)

pub not_served : (status : ℕ) → (status ≡ 2) ⊎ ((status ≡ 1) ⊎ (status ≡ 3)) → (status ≡ 0) ⊎ ((status ≡ 4) ⊎ (status ≡ 5)) → ⊥
not_served status kinds (inl e) = not_status status 0 (inl refl) kinds e
not_served status kinds (inr (inl e)) = not_status status 4 (inr (inl refl)) kinds e
not_served status kinds (inr (inr e)) = not_status status 5 (inr (inr refl)) kinds e

pub no_fault_when_steady : (status : ℕ) → (status ≡ 1) ⊎ (status ≡ 2) → status ≡ 3 → ⊥
no_fault_when_steady status (inl e) f = omega (arith, e, f)
no_fault_when_steady status (inr e) f = omega (arith, e, f)
