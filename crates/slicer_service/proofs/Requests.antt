-- What a run of a request comes to, from what its steps found.
use Rattle.std.proofs.Common.{◌≡◌, ◌⊎◌, ◌≤◌, ℕ, Bool, List, [], Option, Some, None, IfSome, refl, sym, ap, subst, ◌∙◌, inl, inr, arith}
use Rattle.std.proofs.lemmas.List.{append-nil}
use Rattle.edge_io.specs.Faults.{Rose}
use Rattle.edge_io.specs.Files.{Files, IsFolder}
use Rattle.edge_io.specs.Reads.{appended}
use Rattle.folder_reader.specs.Hosts.{Goes}
use Rattle.slicer_ids.specs.declared.ids.NodeId.{NodeId}
use Rattle.slicer_ids.specs.declared.ids.Statement.{Statement}
use Rattle.dep_form.specs.Inputs.{BelongsTo}
use Rattle.dep_form.specs.LookUps.{IsStatement}
use Rattle.dep_form.specs.declared.facts.Facts.{Facts}
use Rattle.class_form.specs.declared.class_file.ClassFile.{ClassFile}
use Rattle.program_form.specs.Programs.{Program}
use Rattle.program_form.specs.Graphs.{Numbering, AreFactsOf}
use Rattle.session_form.specs.States.{AreListed}
use Rattle.acceptance.specs.Refusals.{Accepts, IsRefusal}
use Rattle.program_loader.specs.Accepted.{IsWhole}
use Rattle.words.specs.declared.request.Request.{Request}
use Rattle.words.specs.Scripts.{AreScripts}
use Rattle.folder_loader.specs.declared.error.LoadError.{LoadError}
use Rattle.folder_loader.specs.declared.error.LoadError.TheVariants as why
use Rattle.run_form.specs.Said.{line, host_fault_line}
use Rattle.run_form.specs.Runs.{AreItsFacts, no_folder, refused, no_path, served}
use Rattle.run_form.specs.Endings.{RunsAs, AreSteady, SaysFault, SessionsEnd, Says, KeepsFiles, HaveEnded}
use Rattle.serving.specs.Served.{AreServedTo, PathFails, SaysOnScripts, KeepsPaths}

-- nothing is said
pub nothing : (said : Option (List ℕ)) → said ≡ appended [] said
nothing None = refl
nothing (Some told) = ap Some (sym (append-nil told))

pub rose_later : (a b c : ℕ) → Rose a b → b ≤ c → Rose a c
rose_later a b c rose more = omega (arith, rose, more)

pub rose_before : (a b c : ℕ) → a ≤ b → Rose b c → Rose a c
rose_before a b c more rose = omega (arith, more, rose)

-- what two steps leave of their host
pub goes_on : {H : Type 0} (faults : H → ℕ) (steady : H → Bool) (sources sinks : H → List ℕ → Bool) (x y z : H) → Goes faults steady sources sinks x y → Goes faults steady sources sinks y z → Goes faults steady sources sinks x z
goes_on faults steady sources sinks x y z first second = record {
  count = omega (arith, first.count, second.count);
  same_host = second.same_host ∙ first.same_host;
  same_sources = second.same_sources ∙ first.same_sources;
  same_sinks = second.same_sinks ∙ first.same_sinks;
}

pub served_kinds : (status : ℕ) → (status ≡ 0) ⊎ ((status ≡ 1) ⊎ ((status ≡ 3) ⊎ (status ≡ 5))) → (status ≡ 0) ⊎ ((status ≡ 1) ⊎ ((status ≡ 3) ⊎ ((status ≡ 4) ⊎ (status ≡ 5))))
served_kinds status (inl e) = inl e
served_kinds status (inr (inl e)) = inr (inl e)
served_kinds status (inr (inr (inl e))) = inr (inr (inl e))
served_kinds status (inr (inr (inr e))) = inr (inr (inr (inr e)))

pub never_refused : (status : ℕ) → (status ≡ 0) ⊎ ((status ≡ 1) ⊎ ((status ≡ 3) ⊎ (status ≡ 5))) → status ≡ 4 → ⊥
never_refused status (inl e) f = omega (arith, e, f)
never_refused status (inr (inl e)) f = omega (arith, e, f)
never_refused status (inr (inr (inl e))) f = omega (arith, e, f)
never_refused status (inr (inr (inr e))) f = omega (arith, e, f)

-- facts of a program list each statement
abbrev pub ListEach : Type 0
ListEach = (p : Program) (ns : Numbering) (f : Facts) → AreFactsOf p ns f → (n : NodeId) (t : Statement) → BelongsTo f.inputs n t → IsStatement f t

pub are_listed : (main : Option (List ℕ)) (classes : List ClassFile) (f : Facts) (p : Program) → ListEach → IsWhole main classes f p → AreListed f
are_listed main classes f p law whole = law p whole.numbers f whole.facts

-- the facts that were loaded are those of the folder's program
pub its_facts : (files : Option Files) (r : Request) (folder : List ℕ) (main : Option (List ℕ)) (classes : List ClassFile) (f : Facts) (p : Program) → folder ≡ r.folder → main ≡ r.main →
    IsWhole main classes f p → IfSome files (λ m. Accepts m folder main p) → IfSome files (λ m. AreItsFacts m r f)
its_facts None r folder main classes f p at named whole accepted = tt
its_facts (Some m) r folder main classes f p at named whole accepted = record {
  program = p;
  accepted = subst (λ (n : Option (List ℕ)). Accepts m r.folder n p) named (subst (λ (path : List ℕ). Accepts m path main p) at accepted);
  numbering = whole.numbers;
  facts = whole.facts;
}

-- the files, what was said and the scripts may be replaced by equal ones
moved : (mid files : Option Files) (a b : Option (List ℕ)) (xs ys : List (List ℕ)) → mid ≡ files → a ≡ b → xs ≡ ys → (P : Option Files → Option (List ℕ) → List (List ℕ) → Type 0) → P mid a xs → P files b ys
moved mid files a b xs ys e f g P h = subst (λ (z : List (List ℕ)). P files b z) g (subst (λ (y : Option (List ℕ)). P files y xs) f (subst (λ (x : Option Files). P x a xs) e h))

-- what was said of a folder that isn't loaded, by the error
abbrev pub IsSaidOf : LoadError → ℕ → List ℕ → Type 0
IsSaidOf error status told = SaysFault status told ⊎ ((refusal : List ℕ) × (status ≡ 4) × (told ≡ line refusal) × (error ≡ why.Refused refusal))

-- .. for which these reasons hold
abbrev pub HasReasons : Option Files → List ℕ → Option (List ℕ) → LoadError → Type 0
HasReasons files folder main error = (text : List ℕ) → error ≡ why.Refused text → IfSome files (λ m. IsRefusal m folder main text)

pub unloaded_kinds : (error : LoadError) (status : ℕ) (told : List ℕ) → IsSaidOf error status told → (status ≡ 0) ⊎ ((status ≡ 1) ⊎ ((status ≡ 3) ⊎ ((status ≡ 4) ⊎ (status ≡ 5))))
unloaded_kinds error status told (inl (inl k)) = inr (inl k.0)
unloaded_kinds error status told (inl (inr k)) = inr (inr (inl k.0))
unloaded_kinds error status told (inr k) = inr (inr (inr (inl k.1)))

pub not_done : (error : LoadError) (status : ℕ) (told : List ℕ) → IsSaidOf error status told → status ≡ 0 → ⊥
not_done error status told (inl (inl k)) e = omega (arith, k.0, e)
not_done error status told (inl (inr k)) e = omega (arith, k.0, e)
not_done error status told (inr k) e = omega (arith, k.1, e)

pub not_ended : (error : LoadError) (status : ℕ) (told : List ℕ) → IsSaidOf error status told → status ≡ 5 → ⊥
not_ended error status told (inl (inl k)) e = omega (arith, k.0, e)
not_ended error status told (inl (inr k)) e = omega (arith, k.0, e)
not_ended error status told (inr k) e = omega (arith, k.1, e)

module _ (r : Request) (fit : AreScripts r.scripts) where
  -- ---- the folder isn't loaded
  refused_as : (files after : Option Files) (said said_after : Option (List ℕ)) (text : List ℕ) → IfSome files (λ m. IsRefusal m r.folder r.main text) → after ≡ files → said_after ≡ appended (line text) said →
      RunsAs files after said said_after (Some r) 4
  refused_as None after said said_after text refuses same told = tt
  refused_as (Some m) after said said_after text refuses same told = (line text, m, refused fit refuses, same, told)

  no_folder_as : (files after : Option Files) (said said_after : Option (List ℕ)) → IfSome files (λ m. IsFolder m r.folder → ⊥) → after ≡ files → said_after ≡ appended host_fault_line said →
      RunsAs files after said said_after (Some r) 3
  no_folder_as None after said said_after none same told = tt
  no_folder_as (Some m) after said said_after none same told = (host_fault_line, m, no_folder fit none, same, told)

  -- ---- the scripts are served
  done_as : (files after : Option Files) (said said_after : Option (List ℕ)) (f : Facts) → IfSome files (λ m. AreItsFacts m r f) → AreServedTo f files after said said_after r.scripts →
      RunsAs files after said said_after (Some r) 0
  done_as None after said said_after f its k = tt
  done_as (Some m) after said said_after f its k = (k.0, k.1, served fit its k.2, k.3, k.4)

  fails_as : (files after : Option Files) (said said_after : Option (List ℕ)) (f : Facts) → IfSome files (λ m. AreItsFacts m r f) → PathFails files after said said_after r.scripts →
      RunsAs files after said said_after (Some r) 3
  fails_as None after said said_after f its k = tt
  fails_as (Some m) after said said_after f its k = (host_fault_line, k.0, no_path fit (its.program, its.accepted) k.1, k.2, k.3)

  ended_there : (files after : Option Files) (f : Facts) (scripts : List (List ℕ)) (P : Facts → Files → Files → Type 0) → IfSome files (λ m. AreItsFacts m r f) →
      IfSome files (λ m. (left : Files) × (after ≡ Some left) × P f m left) → IfSome files (λ m. (g : Facts) × (left : Files) × AreItsFacts m r g × (after ≡ Some left) × P g m left)
  ended_there None after f scripts P its k = tt
  ended_there (Some m) after f scripts P its k = (f, k.0, its, k.1, k.2)

  says_as : (files after : Option Files) (sources sinks : List ℕ → Bool) (f : Facts) (status : ℕ) (told : List ℕ) → IfSome files (λ m. AreItsFacts m r f) →
      SaysOnScripts f files after sources sinks r.scripts status told → Says files after sources sinks (Some r) status told
  says_as files after sources sinks f status told its (inl fault) = inr (fit, inl (inl fault))
  says_as files after sources sinks f status told its (inr (ends, e, is)) =
      let there = ended_there files after f r.scripts (λ g m left. HaveEnded g m r.scripts ends left) its in
      let all : SessionsEnd files after sources sinks r status ends = record { count = e.count; causes = e.causes; closed = λ h. there (e.closed h) } in
      inr (fit, inr (ends, all, is))

  keeps_as : (files after : Option Files) (f : Facts) → IfSome files (λ m. AreItsFacts m r f) → KeepsPaths f files after r.scripts → KeepsFiles files after (Some r)
  keeps_as None after f its k = tt
  keeps_as (Some m) after f its k = (k.0, k.1, inr (f, its, k.2))

  -- what the loading left is as it was before
  module _ (files mid : Option Files) (said said_mid : Option (List ℕ)) (scripts : List (List ℕ)) (same_files : mid ≡ files) (same_said : said_mid ≡ said) (same : scripts ≡ r.scripts) where
    pub done : (after : Option Files) (said_after : Option (List ℕ)) (f : Facts) → IfSome files (λ m. AreItsFacts m r f) → AreServedTo f mid after said_mid said_after scripts → RunsAs files after said said_after (Some r) 0
    done after said_after f its h = done_as files after said said_after f its (moved mid files said_mid said scripts r.scripts same_files same_said same (λ o s xs. AreServedTo f o after s said_after xs) h)

    pub fails : (after : Option Files) (said_after : Option (List ℕ)) (f : Facts) → IfSome files (λ m. AreItsFacts m r f) → PathFails mid after said_mid said_after scripts → RunsAs files after said said_after (Some r) 3
    fails after said_after f its h = fails_as files after said said_after f its (moved mid files said_mid said scripts r.scripts same_files same_said same (λ o s xs. PathFails o after s said_after xs) h)

    pub says : (after : Option Files) (sources sinks sources_mid sinks_mid : List ℕ → Bool) (f : Facts) (status : ℕ) (told : List ℕ) → sources_mid ≡ sources → sinks_mid ≡ sinks → IfSome files (λ m. AreItsFacts m r f) →
        SaysOnScripts f mid after sources_mid sinks_mid scripts status told → Says files after sources sinks (Some r) status told
    says after sources sinks sources_mid sinks_mid f status told as_sources as_sinks its h =
        let all = moved mid files said_mid said scripts r.scripts same_files same_said same (λ o s xs. SaysOnScripts f o after sources_mid sinks_mid xs status told) h in
        let read = subst (λ (k : List ℕ → Bool). SaysOnScripts f files after k sinks_mid r.scripts status told) as_sources all in
        let both = subst (λ (k : List ℕ → Bool). SaysOnScripts f files after sources k r.scripts status told) as_sinks read in
        says_as files after sources sinks f status told its both

    pub keeps : (after : Option Files) (f : Facts) → IfSome files (λ m. AreItsFacts m r f) → KeepsPaths f mid after scripts → KeepsFiles files after (Some r)
    keeps after f its h = keeps_as files after f its (moved mid files said_mid said scripts r.scripts same_files same_said same (λ o s xs. KeepsPaths f o after xs) h)

    pub ends : (sources sinks sources_mid sinks_mid : List ℕ → Bool) → sources_mid ≡ sources → sinks_mid ≡ sinks → (AreSteady sources_mid sinks_mid scripts → ⊥) → AreSteady sources sinks r.scripts → ⊥
    ends sources sinks sources_mid sinks_mid as_sources as_sinks none steady =
        let read = subst (λ (k : List ℕ → Bool). AreSteady k sinks r.scripts) (sym as_sources) steady in
        let both = subst (λ (k : List ℕ → Bool). AreSteady sources_mid k r.scripts) (sym as_sinks) read in
        none (subst (λ (xs : List (List ℕ)). AreSteady sources_mid sinks_mid xs) (sym same) both)

  named : (files : Option Files) (folder : List ℕ) (main : Option (List ℕ)) (text : List ℕ) → folder ≡ r.folder → main ≡ r.main → IfSome files (λ m. IsRefusal m folder main text) → IfSome files (λ m. IsRefusal m r.folder r.main text)
  named None folder main text at is h = tt
  named (Some m) folder main text at is h = subst (λ (n : Option (List ℕ)). IsRefusal m r.folder n text) is (subst (λ (path : List ℕ). IsRefusal m path main text) at h)

  module _ (files after : Option Files) (folder : List ℕ) (main : Option (List ℕ)) (at : folder ≡ r.folder) (is : main ≡ r.main) (error : LoadError) (reasons : HasReasons files folder main error) where
    pub unloaded_refused : (said said_after : Option (List ℕ)) (status : ℕ) (told : List ℕ) → after ≡ files → said_after ≡ appended told said → IsSaidOf error status told → status ≡ 4 →
        RunsAs files after said said_after (Some r) 4
    unloaded_refused said said_after status told same line_said (inl (inl k)) e = absurd (omega (arith, k.0, e))
    unloaded_refused said said_after status told same line_said (inl (inr k)) e = absurd (omega (arith, k.0, e))
    unloaded_refused said said_after status told same line_said (inr k) e =
        refused_as files after said said_after k.0 (named files folder main k.0 at is (reasons k.0 k.3)) same (line_said ∙ ap (λ (t : List ℕ). appended t said) k.2)

    pub unloaded_says : (sources sinks : List ℕ → Bool) (status : ℕ) (told : List ℕ) → IsSaidOf error status told → Says files after sources sinks (Some r) status told
    unloaded_says sources sinks status told (inl fault) = inr (fit, inl (inl fault))
    unloaded_says sources sinks status told (inr k) = inr (fit, inl (inr (k.1, k.0, k.2, named files folder main k.0 at is (reasons k.0 k.3))))

  pub no_folder_at : (files after : Option Files) (folder : List ℕ) (said said_after : Option (List ℕ)) → folder ≡ r.folder → IfSome files (λ m. IsFolder m folder → ⊥) → after ≡ files → said_after ≡ appended host_fault_line said →
      RunsAs files after said said_after (Some r) 3
  no_folder_at files after folder said said_after at none same told =
      no_folder_as files after said said_after (subst (λ (path : List ℕ). IfSome files (λ (m : Files). IsFolder m path → ⊥)) at none) same told

pub keeps_same : (files after : Option Files) (asked : Option Request) → after ≡ files → KeepsFiles files after asked
keeps_same files after None same = same
keeps_same None after (Some r) same = tt
keeps_same (Some m) after (Some r) same = (m, same, inl refl)
