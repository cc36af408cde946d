-- Scripts are independent of one another.
use Rattle.std.proofs.Common.{◌≡◌, ℕ, List, Option, Some, None, sym, ap, subst, ◌∙◌}
use Rattle.std.specs.FinMap as map
use Rattle.edge_io.specs.Files.{Files, HasFile}
use Rattle.edge_io.specs.declared.host.Entry.{Entry}
use Rattle.edge_io.specs.declared.host.Entry.TheVariants.{Folder, File}
use Rattle.dep_form.specs.declared.facts.Facts.{Facts}
use Rattle.program_form.specs.Programs.{Program}
use Rattle.program_form.specs.Graphs.{Numbering, AreFactsOf}
use Rattle.session_form.specs.Scripts.{IsScriptText}
use Rattle.acceptance.specs.Refusals.{Accepts}
use Rattle.words.specs.Scripts.{output_of}
use Rattle.words.specs.declared.request.Request.{Request}
use Rattle.run_form.specs.Said.{Done}
use Rattle.slicer_service.specs.Alike.{AgreeIn, IsDoneIn}
use Rattle.slicer_service.proofs.Folders.{accepted_too, agree_back}

abbrev bytes_in : List ℕ → Option Entry → List ℕ
bytes_in d None = d
bytes_in d (Some Folder) = d
bytes_in d (Some (File bytes)) = bytes

-- what a law of another crate says
abbrev pub OneText : Type 0
OneText = (m : Files) (folder : List ℕ) (main : Option (List ℕ)) (p q : Program) (ns ms : Numbering) (f g : Facts) (script a b : List ℕ) → Accepts m folder main p → Accepts m folder main q →
    AreFactsOf p ns f → AreFactsOf q ms g → IsScriptText f script a → IsScriptText g script b → a ≡ b

-- a script that is done has its text in its output
record IsWritten (m : Files) (f : Facts) (script : List ℕ) (after : Files) : Type 0 where
  bytes : List ℕ
  there : HasFile m script bytes
  text : List ℕ
  is : IsScriptText f bytes text
  output : HasFile after (output_of script) text

written : (m : Files) (r : Request) (script : List ℕ) (after : Files) (d : IsDoneIn m r script after) → IsWritten m d.program_facts script after
written m r script after d =
    let e = d.ended.each d.number script (Done d.replies) d.script_at d.done_at in
    record { bytes = e.bytes; there = e.there; text = e.written; is = (e.wrote.0, e.wrote.1, e.wrote.3); output = e.output }

pub independent : OneText → (m n after left : Files) (r q : Request) (script : List ℕ) → AgreeIn r.folder m n → map.get m script ≡ map.get n script → q.folder ≡ r.folder → q.main ≡ r.main →
    IsDoneIn m r script after → IsDoneIn n q script left → map.get after (output_of script) ≡ map.get left (output_of script)
independent law m n after left r q script alike same_script same_folder same_main first second =
    let a = written m r script after first in
    let b = written n q script left second in
    let there : Accepts n r.folder r.main second.its.program =
    subst (λ (o : Option (List ℕ)). Accepts n r.folder o second.its.program) same_main (subst (λ (path : List ℕ). Accepts n path q.main second.its.program) same_folder second.its.accepted) in
    let here : Accepts m r.folder r.main second.its.program = accepted_too n m r.folder r.main second.its.program (agree_back m n r.folder alike) there in
    let bytes : b.bytes ≡ a.bytes = ap (bytes_in b.bytes) (sym b.there ∙ sym same_script ∙ a.there) in
    let also : IsScriptText second.program_facts a.bytes b.text = subst (λ (s : List ℕ). IsScriptText second.program_facts s b.text) bytes b.is in
    let texts : a.text ≡ b.text =
    law m r.folder r.main first.its.program second.its.program first.its.numbering second.its.numbering first.program_facts second.program_facts a.bytes a.text b.text first.its.accepted here first.its.facts
    second.its.facts a.is also in
    a.output ∙ ap (λ (t : List ℕ). Some (File t)) texts ∙ sym b.output
