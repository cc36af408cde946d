-- A run is a function of its request and the files: where it ends in one way, it ends in no other.
use Rattle.std.proofs.Common.{◌≡◌, ℕ, List, Option, Some, None, map, take, refl, sym, ap, subst, ◌∙◌, inl, inr}
use Rattle.std.proofs.lemmas.Bool.{cases_order}
use Rattle.std.specs.FinMap as map
use Rattle.edge_io.specs.Files.{Files, IsFolder}
use Rattle.dep_form.specs.declared.facts.Facts.{Facts}
use Rattle.program_form.specs.Programs.{Program}
use Rattle.program_form.specs.Graphs.{Numbering, AreFactsOf}
use Rattle.session_form.specs.Scripts.{IsScriptText}
use Rattle.acceptance.specs.Refusals.{Accepts, IsRefusal, of_files, of_classes, walk, reading, file}
use Rattle.words.specs.declared.request.Request.{Request}
use Rattle.words.specs.Scripts.{AreScripts}
use Rattle.run_form.specs.Said.{Ending, line, usage_line, host_fault_line, session_lines}
use Rattle.run_form.specs.Outputs.{HasOutputs, IsFirstFolder, IsPathFault, no_script, no_output, IsServed, text_of, no_text}
use Rattle.run_form.specs.Runs.{IsAccepted, AreItsFacts, Runs, usage, no_folder, refused, no_path, served, RunOf}
use Rattle.run_form.proofs.OneWriting.{one_writing}
use Rattle.run_form.proofs.OneServing.{HaveOneText, served_files, one_serving}

-- both ends are one
abbrev pub IsSameEnd : ℕ → ℕ → List ℕ → List ℕ → Files → Files → Type 0
IsSameEnd s t said told a b = (s ≡ t) × (said ≡ told) × ((path : List ℕ) → map.get a path ≡ map.get b path)

-- what laws of other crates say
abbrev pub OneLine : Type 0
OneLine = (m : Files) (folder : List ℕ) (main : Option (List ℕ)) (a b : List ℕ) → IsRefusal m folder main a → IsRefusal m folder main b → a ≡ b

abbrev pub NotBoth : Type 0
NotBoth = (m : Files) (folder : List ℕ) (main : Option (List ℕ)) (a : List ℕ) (p : Program) → IsRefusal m folder main a → Accepts m folder main p → ⊥

abbrev pub OneText : Type 0
OneText = (m : Files) (folder : List ℕ) (main : Option (List ℕ)) (p q : Program) (ns ms : Numbering) (f g : Facts) (script a b : List ℕ) → Accepts m folder main p → Accepts m folder main q →
    AreFactsOf p ns f → AreFactsOf q ms g → IsScriptText f script a → IsScriptText g script b → a ≡ b

-- a folder that is refused, or accepted, is there
refused_there : {m : Files} {folder : List ℕ} {main : Option (List ℕ)} {text : List ℕ} → IsRefusal m folder main text → IsFolder m folder
refused_there (of_files (walk w)) = w.0
refused_there (of_files (reading w r)) = w.0
refused_there (of_files (file has first)) = has.walk.0
refused_there (of_classes found refuses) = found.2.walk.0

accepted_there : {m : Files} {folder : List ℕ} {main : Option (List ℕ)} {p : Program} → Accepts m folder main p → IsFolder m folder
accepted_there h = h.found.2.walk.0

-- the first of several scripts is one
one_first : (m : Files) (scripts : List (List ℕ)) (k i : ℕ) → IsFirstFolder m scripts k → IsFirstFolder m scripts i → k ≡ i
one_first m scripts k i h g = elim (cases_order k i) [
  | inl same ↦ same
  | inr o ↦ elim o [ inl lt ↦ absurd (g.before k h.script lt h.there h.folder) | inr gt ↦ absurd (h.before i g.script gt g.there g.folder) ]
]

-- what is there after a path fault is one
one_fault : (m : Files) (scripts : List (List ℕ)) (a b : Files) → IsPathFault m scripts a → IsPathFault m scripts b → (path : List ℕ) → map.get a path ≡ map.get b path
one_fault m scripts _ _ (no_script k script at missing) (no_script i other there none) path = refl
one_fault m scripts _ _ (no_script k script at missing) (no_output files first out) path = absurd (missing (files k script at))
one_fault m scripts _ _ (no_output files first out) (no_script k script at missing) path = absurd (missing (files k script at))
one_fault m scripts a b (no_output {k = i} files first out) (no_output {k = j} others second also) path =
    let same : i ≡ j = one_first m scripts i j first second in
    let outs : HasOutputs m (take j scripts) (map no_text (take j scripts)) a = subst (λ (n : ℕ). HasOutputs m (take n scripts) (map no_text (take n scripts)) a) same out in
    one_writing m (take j scripts) (map no_text (take j scripts)) a b outs also path

-- where every script is served, no path fails
served_is_sound : (f : Facts) (m : Files) (scripts : List (List ℕ)) (said : List ℕ) (a b : Files) → IsServed f m scripts said a → IsPathFault m scripts b → ⊥
served_is_sound f m scripts said a _ h (no_script k script at missing) = missing (served_files f m scripts h.replies h.served k script at)
served_is_sound f m scripts said a b h (no_output {k} files first out) = h.free k first.script first.there first.folder

module _ (one_line : OneLine) (not_both : NotBoth) (one_text : OneText) (m : Files) (r : Request) where
  refused_not : {text : List ℕ} → IsRefusal m r.folder r.main text → IsAccepted m r → ⊥
  refused_not {text} h k = not_both m r.folder r.main text k.0 h k.1

  accepted : {f : Facts} → AreItsFacts m r f → IsAccepted m r
  accepted h = (h.program, h.accepted)

  after_usage : {t : ℕ} {told : List ℕ} {b : Files} → (AreScripts r.scripts → ⊥) → Runs m r t told b → IsSameEnd 2 t usage_line told m b
  after_usage h (usage k) = (refl, refl, λ path. refl)
  after_usage h (no_folder ok k) = absurd (h ok)
  after_usage h (refused ok k) = absurd (h ok)
  after_usage h (no_path ok k fault) = absurd (h ok)
  after_usage h (served ok k is) = absurd (h ok)

  after_no_folder : {t : ℕ} {told : List ℕ} {b : Files} → AreScripts r.scripts → (IsFolder m r.folder → ⊥) → Runs m r t told b → IsSameEnd 3 t host_fault_line told m b
  after_no_folder fit h (usage k) = absurd (k fit)
  after_no_folder fit h (no_folder ok k) = (refl, refl, λ path. refl)
  after_no_folder fit h (refused ok k) = absurd (h (refused_there k))
  after_no_folder fit h (no_path ok k fault) = absurd (h (accepted_there k.1))
  after_no_folder fit h (served ok k is) = absurd (h (accepted_there k.accepted))

  after_refused : {text : List ℕ} {t : ℕ} {told : List ℕ} {b : Files} → AreScripts r.scripts → IsRefusal m r.folder r.main text → Runs m r t told b → IsSameEnd 4 t (line text) told m b
  after_refused fit h (usage k) = absurd (k fit)
  after_refused fit h (no_folder ok k) = absurd (k (refused_there h))
  after_refused {text} fit h (refused {text = other} ok k) = (refl, ap line (one_line m r.folder r.main text other h k), λ path. refl)
  after_refused fit h (no_path ok k fault) = absurd (refused_not h k)
  after_refused fit h (served ok k is) = absurd (refused_not h (accepted k))

  after_no_path : {a : Files} {t : ℕ} {told : List ℕ} {b : Files} → AreScripts r.scripts → IsAccepted m r → IsPathFault m r.scripts a → Runs m r t told b → IsSameEnd 3 t host_fault_line told a b
  after_no_path fit h fault (usage k) = absurd (k fit)
  after_no_path fit h fault (no_folder ok k) = absurd (k (accepted_there h.1))
  after_no_path fit h fault (refused ok k) = absurd (refused_not k h)
  after_no_path {a} fit h fault (no_path {after = b} ok k other) = (refl, refl, one_fault m r.scripts a b fault other)
  after_no_path {a} fit h fault (served {f} {said} {after = b} ok k is) = absurd (served_is_sound f m r.scripts said b a is fault)

  after_served : {f : Facts} {said : List ℕ} {a : Files} {t : ℕ} {told : List ℕ} {b : Files} → AreScripts r.scripts → AreItsFacts m r f → IsServed f m r.scripts said a →
      Runs m r t told b → IsSameEnd 0 t said told a b
  after_served fit h is (usage k) = absurd (k fit)
  after_served fit h is (no_folder ok k) = absurd (k (accepted_there h.accepted))
  after_served fit h is (refused ok k) = absurd (refused_not k (accepted h))
  after_served {f} {said} {a} fit h is (no_path {after = b} ok k fault) = absurd (served_is_sound f m r.scripts said a b is fault)
  after_served {f} {said} {a} fit h is (served {f = g} {said = told} {after = b} ok k also) =
      let text : HaveOneText f g = λ script x y is_x is_y. one_text m r.folder r.main h.program k.program h.numbering k.numbering f g script x y h.accepted k.accepted h.facts k.facts is_x is_y in
      let alike = one_serving f g m text r.scripts is.replies also.replies is.served also.served in
      let outs : HasOutputs m r.scripts (map (text_of g) also.replies) a = subst (λ (ts : List (List ℕ)). HasOutputs m r.scripts ts a) alike.0 is.outputs in
      (refl, is.lines ∙ ap (λ (es : List Ending). session_lines 1 es) alike.1 ∙ sym also.lines, one_writing m r.scripts (map (text_of g) also.replies) a b outs also.outputs)

  one_end : {s t : ℕ} {said told : List ℕ} {a b : Files} → Runs m r s said a → Runs m r t told b → IsSameEnd s t said told a b
  one_end (usage h) q = after_usage h q
  one_end (no_folder fit h) q = after_no_folder fit h q
  one_end (refused fit h) q = after_refused fit h q
  one_end (no_path fit h fault) q = after_no_path fit h fault q
  one_end (served fit h is) q = after_served fit h is q

pub one_run : OneLine → NotBoth → OneText → (m : Files) (asked : Option Request) (s t : ℕ) (said told : List ℕ) (a b : Files) → RunOf m asked s said a → RunOf m asked t told b → IsSameEnd s t said told a b
one_run one_line not_both one_text m None s t said told a b p q =
    (p.0 ∙ sym q.0, p.1 ∙ sym q.1, λ path. ap (λ (n : Files). map.get n path) (p.2 ∙ sym q.2))
one_run one_line not_both one_text m (Some r) s t said told a b p q = one_end one_line not_both one_text m r p q
