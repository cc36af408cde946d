-- Runs that ended with 0, 1 or 5, and said how a session ended.
use Rattle.std.proofs.Common.{◌≡◌, ◌≢◌, ◌⊎◌, ℕ, Bool, true, false, List, Option, Some, refl, sym, ap, subst, ◌∙◌, inl, inr, arith}
use Rattle.std.specs.Prelude.{slice_get}
use Rattle.std.specs.FinMap as map
use Rattle.edge_io.specs.Files.{Files}
use Rattle.words.specs.Scripts.{output_of}
use Rattle.words.specs.declared.request.Request.{Request}
use Rattle.run_form.specs.Said.{Ending, Done, ReadFault, WriteFault, NoMemory}
use Rattle.run_form.specs.Endings.{IsCaused, is_fault, SaysFault, SaysUsage, SaysBefore, SaysAfter, all_said, some_said, failed, fault_said, SessionsEnd, Says}
use Rattle.slicer_service.specs.Alike.{AgreeIn, IsDoneIn}
use Rattle.run_laws.specs.Told.{IsSaid, SaysOf, SaysDone}
use Rattle.run_laws.proofs.LineText.{letter}
use Rattle.run_laws.proofs.SaidLines.{EndsLike, never_said, said_of_all, said_of_first}

-- the statuses of which this speaks
abbrev HasEnd : ℕ → Type 0
HasEnd status = (status ≡ 0) ⊎ (status ≡ 1) ⊎ (status ≡ 5)

not_of : (status n : ℕ) → n ≢ 0 → n ≢ 1 → n ≢ 5 → HasEnd status → status ≡ n → ⊥
not_of status n a b c (inl e) h = a (sym h ∙ e)
not_of status n a b c (inr (inl e)) h = b (sym h ∙ e)
not_of status n a b c (inr (inr e)) h = c (sym h ∙ e)

not_two : (status : ℕ) → HasEnd status → status ≡ 2 → ⊥
not_two status = not_of status 2 (λ e. omega (arith, e)) (λ e. omega (arith, e)) (λ e. omega (arith, e))

not_three : (status : ℕ) → HasEnd status → status ≡ 3 → ⊥
not_three status = not_of status 3 (λ e. omega (arith, e)) (λ e. omega (arith, e)) (λ e. omega (arith, e))

not_four : (status : ℕ) → HasEnd status → status ≡ 4 → ⊥
not_four status = not_of status 4 (λ e. omega (arith, e)) (λ e. omega (arith, e)) (λ e. omega (arith, e))

module _ (status : ℕ) (told : List ℕ) (k : ℕ) (d : Ending) (end : HasEnd status) (line : IsSaid told k d) where
  no_fault : SaysFault status told → ⊥
  no_fault (inl h) = never_said told k d h.1 line
  no_fault (inr h) = not_three status end h.0

  no_usage : SaysUsage status told → ⊥
  no_usage (inl h) = not_two status end h.0
  no_usage (inr h) = no_fault h

  no_refusal : (files : Option Files) (r : Request) → SaysBefore files r status told → ⊥
  no_refusal files r (inl h) = no_fault h
  no_refusal files r (inr h) = not_four status end h.0

ends_like : (ends : List Ending) (status : ℕ) (told : List ℕ) (k : ℕ) (d : Ending) → HasEnd status → IsSaid told k d → SaysAfter ends status told → EndsLike ends k d
ends_like ends _ told k d end line all_said = said_of_all ends told k d refl line
ends_like ends _ told k d end line (some_said n) = said_of_first ends n told k d refl line
ends_like ends _ _ k d end line (failed n) = absurd (not_three 3 end refl)
ends_like ends _ _ k d end line (fault_said n) = absurd (not_three 3 end refl)

-- the sessions of the run ended, and that on the script as was said
pub record Ended (m : Files) (files_after : Option Files) (sources sinks : List ℕ → Bool) (r : Request) (number : ℕ) (d : Ending) : Type 0 where
  pub status : ℕ
  pub ends : List Ending
  pub sessions : SessionsEnd (Some m) files_after sources sinks r status ends
  pub closed : status ≢ 3
  pub like : EndsLike ends number d

ended_by : (m : Files) (files_after : Option Files) (sources sinks : List ℕ → Bool) (r : Request) (status : ℕ) (told : List ℕ) (k : ℕ) (d : Ending) → HasEnd status → IsSaid told k d →
    Says (Some m) files_after sources sinks (Some r) status told → Ended m files_after sources sinks r k d
ended_by m files_after sources sinks r status told k d end line (inl h) = absurd (no_usage status told k d end line h.1)
ended_by m files_after sources sinks r status told k d end line (inr (_, inl h)) = absurd (no_refusal status told k d end line (Some m) r h)
ended_by m files_after sources sinks r status told k d end line (inr (_, inr (ends, sessions, says))) =
    record { status = status; ends = ends; sessions = sessions; closed = not_three status end; like = ends_like ends status told k d end line says }

is_done : (e : Ending) (n : ℕ) → letter e ≡ letter (Done n) → (k : ℕ) × (e ≡ Done k)
is_done (Done k) n same = (k, refl)
is_done (ReadFault k) n same = absurd (omega (arith, same))
is_done (WriteFault k) n same = absurd (omega (arith, same))
is_done (NoMemory k) n same = absurd (omega (arith, same))

abbrev IsDoneAfter : Files → Option Files → Request → List ℕ → Type 0
IsDoneAfter m files_after r script = (after : Files) × (files_after ≡ Some after) × IsDoneIn m r script after

pub done_after : (m : Files) (files_after : Option Files) (r : Request) (script : List ℕ) → SaysDone m files_after r script → IsDoneAfter m files_after r script
done_after m files_after r script s =
    let h = s.says in
    let g = ended_by m files_after s.sources s.sinks r h.status h.told h.number (Done s.replies) h.ended h.line h.says in
    let done = is_done g.like.0 s.replies g.like.2 in
    let (facts, after, its, left, ended) = g.sessions.closed g.closed in (
      after,
      left,
      record {
        program_facts = facts;
        its = its;
        ends = g.ends;
        ended = ended;
        number = h.number;
        replies = done.0;
        script_at = h.script_at;
        done_at = subst (λ e. slice_get g.ends h.number ≡ Some e) done.1 g.like.1;
      },
    )

-- what ended with a fault has an end that isn't steady
no_fault_of : (sources sinks : List ℕ → Bool) (script : List ℕ) (e d : Ending) → letter e ≡ letter d → IsCaused sources sinks script e → sources script ≡ true → sinks (output_of script) ≡ true → is_fault d ≡ false
no_fault_of sources sinks script e (Done n) same cause source sink = refl
no_fault_of sources sinks script e (NoMemory n) same cause source sink = refl
no_fault_of sources sinks script (ReadFault k) (ReadFault n) same cause source sink = absurd (cause source)
no_fault_of sources sinks script (WriteFault k) (WriteFault n) same cause source sink = absurd (cause sink)
no_fault_of sources sinks script (ReadFault k) (WriteFault n) same cause source sink = absurd (omega (arith, same))
no_fault_of sources sinks script (WriteFault k) (ReadFault n) same cause source sink = absurd (omega (arith, same))
no_fault_of sources sinks script (Done k) (ReadFault n) same cause source sink = absurd (omega (arith, same))
no_fault_of sources sinks script (Done k) (WriteFault n) same cause source sink = absurd (omega (arith, same))
no_fault_of sources sinks script (NoMemory k) (ReadFault n) same cause source sink = absurd (omega (arith, same))
no_fault_of sources sinks script (NoMemory k) (WriteFault n) same cause source sink = absurd (omega (arith, same))

pub no_fault_said : (m : Files) (files_after : Option Files) (sources sinks : List ℕ → Bool) (r : Request) (script : List ℕ) (d : Ending) → SaysOf m files_after sources sinks r script d →
    sources script ≡ true → sinks (output_of script) ≡ true → is_fault d ≡ false
no_fault_said m files_after sources sinks r script d h source sink =
    let g = ended_by m files_after sources sinks r h.status h.told h.number d h.ended h.line h.says in
    no_fault_of sources sinks script g.like.0 d g.like.2 (g.sessions.causes h.number script g.like.0 h.script_at g.like.1) source sink

-- what a law of the program says
abbrev pub AreIndependent : Type 0
AreIndependent = (m n after left : Files) (r q : Request) (script : List ℕ) → AgreeIn r.folder m n → map.get m script ≡ map.get n script → q.folder ≡ r.folder → q.main ≡ r.main →
    IsDoneIn m r script after → IsDoneIn n q script left → map.get after (output_of script) ≡ map.get left (output_of script)

abbrev pub HaveOneOutput : Option Files → Option Files → List ℕ → Type 0
HaveOneOutput files_after files_left script =
    (after : Files) × (left : Files) × (files_after ≡ Some after) × (files_left ≡ Some left) × (map.get after (output_of script) ≡ map.get left (output_of script))

pub one_output : AreIndependent → (m n : Files) (files_after files_left : Option Files) (r q : Request) (script : List ℕ) → AgreeIn r.folder m n → map.get m script ≡ map.get n script → q.folder ≡ r.folder →
    q.main ≡ r.main → SaysDone m files_after r script → SaysDone n files_left q script → HaveOneOutput files_after files_left script
one_output law m n files_after files_left r q script alike same folder main first second =
    let a = done_after m files_after r script first in
    let b = done_after n files_left q script second in
    (a.0, b.0, a.1, b.1, law m n a.0 b.0 r q script alike same folder main a.2 b.2)
