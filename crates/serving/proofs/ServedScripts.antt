-- The status of a run, and what it says of the run.
use Rattle.std.proofs.Common.{◌≡◌, ◌≢◌, ◌⊎◌, ◌<◌, ◌≤◌, ◌∷◌, [], ℕ, zero, suc, Bool, true, false, List, Option, Some, None, IfSome, inl, inr, length, map, take, slice_get, refl, sym, ap, subst, ◌∙◌, arith, if◌then◌else◌, ◌||◌}
use Rattle.std.specs.List.{list_any}
use Rattle.std.proofs.lemmas.List.{take_all}
use Rattle.std.proofs.lemmas.Option.{slice_get_within}
use Rattle.dep_form.specs.declared.facts.Facts.{Facts}
use Rattle.edge_io.specs.Faults.{Rose}
use Rattle.edge_io.specs.Files.{Files, HasFile}
use Rattle.edge_io.specs.Reads.{appended}
use Rattle.report.specs.Replies.{Answer}
use Rattle.words.specs.Scripts.{output_of, AreScripts}
use Rattle.run_form.specs.Said.{Ending, Done, ReadFault, WriteFault, NoMemory, host_fault_line, session_lines}
use Rattle.run_form.specs.Outputs.{AreServed, none, one, AreFree, AreFiles, IsServed, IsPathFault, text_of, done_of}
use Rattle.run_form.specs.Endings.{HasEnded, HaveEnded, IsCaused, AreSteady, SaysFault, SaysAfter, all_said, some_said, failed, fault_said, status_of, is_no_memory, is_fault}
use Rattle.serving.specs.Ends.{AreCreated}
use Rattle.serving.specs.Served.{AreServedTo, PathFails, ScriptsEnd, SaysOnScripts, KeepsPaths}
use Rattle.serving.specs.AllEnded.{AreReady, RanOn}
use Rattle.serving.proofs.SaidLines.{said_nothing}
use Rattle.serving.proofs.SeatedDesks.{map_length}
use Rattle.serving.proofs.EmptyOutputs.{there_at, are_files, all_made_keeps}

-- ---- a run without memory, before its sessions

pub for_any : (o : Option Files) (P : Type 0) → P → IfSome o (λ m. P)
for_any None P p = tt
for_any (Some m) P p = p

pub ran_none : (f : Facts) (files now : Option Files) (said said' : Option (List ℕ)) (sources sinks : List ℕ → Bool) (is_steady : Bool) (scripts : List (List ℕ)) → said' ≡ said → KeepsPaths f files now scripts
    → RanOn f files now said said' sources sinks is_steady scripts 1
ran_none f files now said said' sources sinks is_steady scripts quiet keeps = record {
  says = ([], said_nothing said said' quiet, inl (inl (refl, refl)));
  keeps = keeps;
  sure = λ steady. for_any files (1 ≢ 3) (λ e. absurd (let z : ◌≡◌ {A = ℕ} 1 3 = e in omega (arith, z)));
}

-- .. whose scripts were open, and whose outputs were made
pub gave_up : {S K : Type 0} (left : S → Option (List ℕ)) (source_steady : S → Bool) (written : K → Option (List ℕ)) (label : K → List ℕ) (sink_steady : K → Bool) (f : Facts) (files now next : Option Files)
    (said said' : Option (List ℕ)) (sources sinks : List ℕ → Bool) (is_steady : Bool) (scripts : List (List ℕ)) (opened : List S) (made : List K) → AreReady left source_steady written label sink_steady files now sources sinks scripts opened made
    → AreCreated scripts files next → said' ≡ said → RanOn f files next said said' sources sinks is_steady scripts 1
gave_up left source_steady written label sink_steady f files now next said said' sources sinks is_steady scripts opened made ready created quiet =
    ran_none f files next said said' sources sinks is_steady scripts quiet (all_made_keeps f files next scripts (are_files left source_steady files sources scripts opened ready.are_opened) created)

-- ---- before and after other steps

pub ready_on : {S K : Type 0} (left : S → Option (List ℕ)) (source_steady : S → Bool) (written : K → Option (List ℕ)) (label : K → List ℕ) (sink_steady : K → Bool) (files now : Option Files) (sources sources' sinks sinks' : List ℕ → Bool)
    (scripts : List (List ℕ)) (opened : List S) (made : List K) → sources' ≡ sources → sinks' ≡ sinks → AreReady left source_steady written label sink_steady files now sources sinks scripts opened made
    → AreReady left source_steady written label sink_steady files now sources' sinks' scripts opened made
ready_on left source_steady written label sink_steady files now sources sources' sinks sinks' scripts opened made e h r =
    subst (λ (s : List ℕ → Bool). AreReady left source_steady written label sink_steady files now s sinks' scripts opened made) (sym e)
    (subst (λ (s : List ℕ → Bool). AreReady left source_steady written label sink_steady files now sources s scripts opened made) (sym h) r)

pub ran_before : (f : Facts) (files next : Option Files) (said said' said'' : Option (List ℕ)) (sources sources' sinks sinks' : List ℕ → Bool) (steady steady' : Bool) (scripts : List (List ℕ)) (status : ℕ)
    → said' ≡ said → sources' ≡ sources → sinks' ≡ sinks → steady' ≡ steady → RanOn f files next said' said'' sources' sinks' steady' scripts status → RanOn f files next said said'' sources sinks steady scripts status
ran_before f files next said said' said'' sources sources' sinks sinks' steady steady' scripts status a b d e r =
    subst (λ (o : Option (List ℕ)). RanOn f files next o said'' sources sinks steady scripts status) a
    (subst (λ (s : List ℕ → Bool). RanOn f files next said' said'' s sinks steady scripts status) b
    (subst (λ (s : List ℕ → Bool). RanOn f files next said' said'' sources' s steady scripts status) d
    (subst (λ (s : Bool). RanOn f files next said' said'' sources' sinks' s scripts status) e r)))

pub rose_later : (a b c : ℕ) → a ≤ b → Rose b c → Rose a c
rose_later a b c le h = omega (arith, le, h)

pub rose_then : (a b c : ℕ) → Rose a b → b ≤ c → Rose a c
rose_then a b c h le = omega (arith, le, h)

-- ---- statuses

abbrev pub IsKind : ℕ → Type 0
IsKind status = (status ≡ 0) ⊎ ((status ≡ 1) ⊎ ((status ≡ 3) ⊎ (status ≡ 5)))

kind_by : (lacks fails : Bool) → IsKind (if lacks then 1 else (if fails then 5 else 0))
kind_by true fails = inr (inl refl)
kind_by false true = inr (inr (inr refl))
kind_by false false = inl refl

kind_after : (ends : List Ending) (status : ℕ) (told : List ℕ) → SaysAfter ends status told → IsKind status
kind_after ends _ _ all_said = kind_by (list_any is_no_memory ends) (list_any is_fault ends)
kind_after ends _ _ (some_said n) = inr (inl refl)
kind_after ends _ _ (failed n) = inr (inr (inl refl))
kind_after ends _ _ (fault_said n) = inr (inr (inl refl))

-- the lines of a run that ended with 0 or 5 are all said
all_after : (ends : List Ending) (status : ℕ) (told : List ℕ) → SaysAfter ends status told → (status ≡ 0) ⊎ (status ≡ 5) → (status ≡ status_of ends) × (told ≡ session_lines 1 ends)
all_after ends _ _ all_said kind = (refl, refl)
all_after ends _ _ (some_said n) (inl e) = absurd (let z : ◌≡◌ {A = ℕ} 1 0 = e in omega (arith, z))
all_after ends _ _ (some_said n) (inr e) = absurd (let z : ◌≡◌ {A = ℕ} 1 5 = e in omega (arith, z))
all_after ends _ _ (failed n) (inl e) = absurd (let z : ◌≡◌ {A = ℕ} 3 0 = e in omega (arith, z))
all_after ends _ _ (failed n) (inr e) = absurd (let z : ◌≡◌ {A = ℕ} 3 5 = e in omega (arith, z))
all_after ends _ _ (fault_said n) (inl e) = absurd (let z : ◌≡◌ {A = ℕ} 3 0 = e in omega (arith, z))
all_after ends _ _ (fault_said n) (inr e) = absurd (let z : ◌≡◌ {A = ℕ} 3 5 = e in omega (arith, z))

none_failed : (lacks fails : Bool) → ◌≡◌ {A = ℕ} (if lacks then 1 else (if fails then 5 else 0)) 0 → (lacks ≡ false) × (fails ≡ false)
none_failed true fails e = absurd (let z : ◌≡◌ {A = ℕ} 1 0 = e in omega (arith, z))
none_failed false true e = absurd (let z : ◌≡◌ {A = ℕ} 5 0 = e in omega (arith, z))
none_failed false false e = (refl, refl)

one_failed : (lacks fails : Bool) → ◌≡◌ {A = ℕ} (if lacks then 1 else (if fails then 5 else 0)) 5 → fails ≡ true
one_failed true fails e = absurd (let z : ◌≡◌ {A = ℕ} 1 5 = e in omega (arith, z))
one_failed false true e = refl
one_failed false false e = absurd (let z : ◌≡◌ {A = ℕ} 0 5 = e in omega (arith, z))

no_fault_said : (status : ℕ) (told : List ℕ) → SaysFault status told → (status ≡ 1) ⊎ (status ≡ 3)
no_fault_said status told (inl (e, quiet)) = inl e
no_fault_said status told (inr (e, said)) = inr e

module _ (f : Facts) (files after : Option Files) (sources sinks : List ℕ → Bool) (scripts : List (List ℕ)) (status : ℕ) (told : List ℕ) (says : SaysOnScripts f files after sources sinks scripts status told) where
  pub kind : IsKind status
  kind = by says
    where
      by : SaysOnScripts f files after sources sinks scripts status told → IsKind status
      by (inl fault) = either (no_fault_said status told fault)
        where
          either : (status ≡ 1) ⊎ (status ≡ 3) → IsKind status
          either (inl e) = inr (inl e)
          either (inr e) = inr (inr (inl e))
      by (inr (ends, end, lines)) = kind_after ends status told lines

  abbrev pub SaysAll : Type 0
  SaysAll = (ends : List Ending) × ScriptsEnd f files after sources sinks scripts status ends × (status ≡ status_of ends) × (told ≡ session_lines 1 ends)

  pub says_all : (status ≡ 0) ⊎ (status ≡ 5) → SaysAll
  says_all kind = by says
    where
      never : (status ≡ 1) ⊎ (status ≡ 3) → (status ≡ 0) ⊎ (status ≡ 5) → SaysAll
      never (inl e) (inl z) = absurd (omega (arith, e, z))
      never (inl e) (inr z) = absurd (omega (arith, e, z))
      never (inr e) (inl z) = absurd (omega (arith, e, z))
      never (inr e) (inr z) = absurd (omega (arith, e, z))

      by : SaysOnScripts f files after sources sinks scripts status told → SaysAll
      by (inl fault) = never (no_fault_said status told fault) kind
      by (inr (ends, end, lines)) = let a = all_after ends status told lines kind in (ends, end, a.0, a.1)

-- a run that failed before its sessions
pub fault_kind : (status : ℕ) (told : List ℕ) → SaysFault status told → IsKind status
fault_kind status told fault = either (no_fault_said status told fault)
  where
    either : (status ≡ 1) ⊎ (status ≡ 3) → IsKind status
    either (inl e) = inr (inl e)
    either (inr e) = inr (inr (inl e))

pub never_whole : (status : ℕ) (told : List ℕ) → SaysFault status told → (status ≡ 0) ⊎ (status ≡ 5) → ⊥
never_whole status told fault kind = either (no_fault_said status told fault) kind
  where
    either : (status ≡ 1) ⊎ (status ≡ 3) → (status ≡ 0) ⊎ (status ≡ 5) → ⊥
    either (inl e) (inl z) = omega (arith, e, z)
    either (inl e) (inr z) = omega (arith, e, z)
    either (inr e) (inl z) = omega (arith, e, z)
    either (inr e) (inr z) = omega (arith, e, z)

-- ---- every session is done

module _ (f : Facts) (m after : Files) where
  record AllDone (scripts : List (List ℕ)) (ends : List Ending) : Type 0 where
    replies : List (List Answer)
    served : AreServed f m scripts replies
    done : ends ≡ map done_of replies
    there : (k : ℕ) (script bytes : List ℕ) → slice_get scripts k ≡ Some script → slice_get (map (text_of f) replies) k ≡ Some bytes → HasFile after (output_of script) bytes

  first_false : (a b : Bool) → (a || b) ≡ false → (a ≡ false) × (b ≡ false)
  first_false true b e = absurd cc
  first_false false b e = (refl, e)

  some_list : (x y : List ℕ) → Some x ≡ Some y → x ≡ y
  some_list x y e = cc

  module _ (x : List ℕ) (xs : List (List ℕ)) (e : Ending) (es : List Ending) (rest : AllDone xs es) where
    with_first : (n : ℕ) → e ≡ Done n → HasEnded f m x (Done n) after → AllDone (x ∷ xs) (e ∷ es)
    with_first n is h =
        let w = h.wrote in
        record {
          replies = w.0 ∷ rest.replies;
          served = one h.there w.1 rest.served;
          done = ap (λ (y : Ending). y ∷ es) (is ∙ ap Done w.2) ∙ ap (λ (ys : List Ending). done_of w.0 ∷ ys) rest.done;
          there = by w.0 (subst (λ (b : List ℕ). HasFile after (output_of x) b) w.3 h.output);
        }
      where
        by : (answers : List Answer) → HasFile after (output_of x) (text_of f answers) → (k : ℕ) (script bytes : List ℕ) → slice_get (x ∷ xs) k ≡ Some script → slice_get (text_of f answers ∷ map (text_of f) rest.replies) k ≡ Some bytes
            → HasFile after (output_of script) bytes
        by answers file zero script bytes at text = subst (λ (s : List ℕ). HasFile after (output_of s) bytes) (some_list x script at) (subst (λ (b : List ℕ). HasFile after (output_of x) b) (some_list (text_of f answers) bytes text) file)
        by answers file (suc k) script bytes at text = rest.there k script bytes at text

    first_done : (y : Ending) → e ≡ y → is_no_memory y ≡ false → is_fault y ≡ false → HasEnded f m x y after → AllDone (x ∷ xs) (e ∷ es)
    first_done (Done n) is lacks fails h = with_first n is h
    first_done (ReadFault n) is lacks fails h = absurd cc
    first_done (WriteFault n) is lacks fails h = absurd cc
    first_done (NoMemory n) is lacks fails h = absurd cc

  all_done : (scripts : List (List ℕ)) (ends : List Ending) → length ends ≡ length scripts → list_any is_no_memory ends ≡ false → list_any is_fault ends ≡ false
      → ((k : ℕ) (script : List ℕ) (e : Ending) → slice_get scripts k ≡ Some script → slice_get ends k ≡ Some e → HasEnded f m script e after) → AllDone scripts ends
  all_done [] [] count lacks fails each = record { replies = []; served = none; done = refl; there = λ k script bytes at text. absurd (omega (arith, slice_get_within [] k script at)) }
  all_done [] (e ∷ es) count lacks fails each = absurd (omega (arith, count))
  all_done (x ∷ xs) [] count lacks fails each = absurd (omega (arith, count))
  all_done (x ∷ xs) (e ∷ es) count lacks fails each =
      let l = first_false (is_no_memory e) (list_any is_no_memory es) lacks in
      let g = first_false (is_fault e) (list_any is_fault es) fails in
      let rest = all_done xs es (omega (arith, count)) l.1 g.1 (λ k script y at et. each (suc k) script y at et) in
      first_done x xs e es rest e refl l.0 g.0 (each 0 x e refl refl)

pub served_to : (f : Facts) (files after : Option Files) (said said' : Option (List ℕ)) (sources sinks : List ℕ → Bool) (scripts : List (List ℕ)) (status : ℕ) (told : List ℕ) → SaysOnScripts f files after sources sinks scripts status told
    → said' ≡ appended told said → IfSome files (λ m. AreFree m scripts) → status ≡ 0 → AreServedTo f files after said said' scripts
served_to f None after said said' sources sinks scripts status told says is free e = tt
served_to f (Some m) after said said' sources sinks scripts status told says is free e =
    let p = says_all f (Some m) after sources sinks scripts status told says (inl e) in
    let whole = none_failed (list_any is_no_memory p.0) (list_any is_fault p.0) (sym p.2 ∙ e) in
    let c = p.1.closed (λ three. absurd (omega (arith, e, three))) in
    let d = all_done f m c.0 scripts p.0 p.1.count whole.0 whole.1 c.2.each in (
      told,
      c.0,
      record {
        replies = d.replies;
        served = d.served;
        free = free;
        outputs = record { count = map_length (text_of f) d.replies ∙ (sym (map_length done_of d.replies) ∙ (ap length (sym d.done) ∙ p.1.count)); there = d.there; others = c.2.others };
        lines = p.3 ∙ ap (session_lines 1) d.done;
      },
      c.1,
      is,
    )

-- ---- a session's fault

abbrev IsFaultAt : List Ending → Type 0
IsFaultAt ends = (k : ℕ) × (e : Ending) × (slice_get ends k ≡ Some e) × (is_fault e ≡ true)

fault_first : (x : Ending) (xs : List Ending) (b : Bool) → is_fault x ≡ b → (b || list_any is_fault xs) ≡ true → (list_any is_fault xs ≡ true → IsFaultAt xs) → IsFaultAt (x ∷ xs)
fault_first x xs true is t rest = (0, x, refl, is)
fault_first x xs false is t rest = let r = rest t in (suc r.0, r.1, r.2, r.3)

fault_at : (ends : List Ending) → list_any is_fault ends ≡ true → IsFaultAt ends
fault_at [] e = absurd cc
fault_at (x ∷ xs) e = fault_first x xs (is_fault x) refl e (λ t. fault_at xs t)

no_cause : (sources sinks : List ℕ → Bool) (script : List ℕ) (e : Ending) → is_fault e ≡ true → sources script ≡ true → sinks (output_of script) ≡ true → IsCaused sources sinks script e → ⊥
no_cause sources sinks script (Done n) fails read write cause = absurd cc
no_cause sources sinks script (ReadFault n) fails read write cause = cause read
no_cause sources sinks script (WriteFault n) fails read write cause = cause write
no_cause sources sinks script (NoMemory n) fails read write cause = absurd cc

pub not_steady : (f : Facts) (files after : Option Files) (sources sinks : List ℕ → Bool) (scripts : List (List ℕ)) (status : ℕ) (told : List ℕ) → SaysOnScripts f files after sources sinks scripts status told → status ≡ 5 → AreSteady sources sinks scripts → ⊥
not_steady f files after sources sinks scripts status told says e steady =
    let p = says_all f files after sources sinks scripts status told says (inr e) in
    let r = fault_at p.0 (one_failed (list_any is_no_memory p.0) (list_any is_fault p.0) (sym p.2 ∙ e)) in
    let script = there_at scripts r.0 (omega (arith, p.1.count, slice_get_within p.0 r.0 r.1 r.2)) in
    let s = steady r.0 script.0 script.1 in
    no_cause sources sinks script.0 r.1 r.3 s.0 s.1 (p.1.causes r.0 script.0 r.1 script.1 r.2)

-- ---- a path that isn't there or is of the wrong kind

pub path_fails : (files next last : Option Files) (said said' said'' : Option (List ℕ)) (scripts : List (List ℕ)) → IfSome files (λ m. (after : Files) × (next ≡ Some after) × IsPathFault m scripts after) → last ≡ next → said' ≡ said
    → said'' ≡ appended host_fault_line said' → PathFails files last said said'' scripts
path_fails None next last said said' said'' scripts cause same quiet is = tt
path_fails (Some m) next last said said' said'' scripts (after, there, fault) same quiet is = (after, fault, same ∙ there, is ∙ ap (appended host_fault_line) quiet)

pub not_three : (files last : Option Files) (said said'' : Option (List ℕ)) (scripts : List (List ℕ)) (status : ℕ) → IfSome files (λ m. status ≢ 3) → status ≡ 3 → PathFails files last said said'' scripts
not_three None last said said'' scripts status sure e = tt
not_three (Some m) last said said'' scripts status sure e = absurd (sure e)
