-- A folder that isn't accepted is refused.
use Rattle.std.proofs.Common.{◌≡◌, ◌⊎◌, ℕ, List, Option, Some, None, refl, inl, inr}
use Rattle.std.specs.Prelude.{IfSome}
use Rattle.edge_io.specs.Files.{Files, IsFolder}
use Rattle.words.specs.Scripts.{AreScripts}
use Rattle.words.specs.declared.request.Request.{Request}
use Rattle.run_form.specs.Runs.{IsAccepted, Runs, usage, no_folder, refused, no_path, served}
use Rattle.run_form.specs.Endings.{RunsAs}

pub is_refused : (m : Files) (r : Request) (status : ℕ) (told : List ℕ) (after : Files) → AreScripts r.scripts → IsFolder m r.folder → (IsAccepted m r → ⊥) → Runs m r status told after → status ≡ 4
is_refused m r _ _ _ scripts there never (usage none) = absurd (none scripts)
is_refused m r _ _ _ scripts there never (no_folder s none) = absurd (none there)
is_refused m r _ _ _ scripts there never (refused s h) = refl
is_refused m r _ _ _ scripts there never (no_path s h fault) = absurd (never h)
is_refused m r _ _ _ scripts there never (served s h all) = absurd (never (h.program, h.accepted))

pub refused_run : (files files_after : Option Files) (said said_after : Option (List ℕ)) (r : Request) (status : ℕ) → AreScripts r.scripts →
    (status ≡ 1) ⊎ RunsAs files files_after said said_after (Some r) status → IfSome files (λ m. IsFolder m r.folder → (IsAccepted m r → ⊥) → (status ≡ 4) ⊎ (status ≡ 1))
refused_run None files_after said said_after r status scripts h = tt
refused_run (Some m) files_after said said_after r status scripts (inl one) = λ there never. inr one
refused_run (Some m) files_after said said_after r status scripts (inr h) = λ there never. inl (is_refused m r status h.0 h.1 scripts there never h.2)
