use Rattle.std.proofs.Common.{rules, ◌∙◌, ℕ, List, Option, Some, Err, sym, ap, subst}
use Rattle.std.specs.Prelude.{option_map}
use Rattle.edge_io.specs.Reads.{appended}
use Rattle.run_form.specs.Said.{host_fault_line}
use Rattle.session_form.specs.States.{AreListed}
use Rattle.words.specs.Scripts.{AreScripts}
use Rattle.folder_loader.specs.declared.error.LoadError.{LoadError}
use Rattle.slicer_service.proofs.Requests.{rose_before, goes_on, are_listed, its_facts, served_kinds, never_refused, done, fails, says, keeps, ends, unloaded_refused, no_folder_at, keeps_same}
use Rattle.slicer_service.proofs.served.serve_request.Goals as goal

-- ---- the folder is loaded
pub serve_scripts-requires-clause-listed : goal.serve_scripts-requires-clause-listed
serve_scripts-requires-clause-listed g c =
    let l = c.in-Ok.ensures.accepted in
    let listed : AreListed c.in-Ok.facts = are_listed (option_map (λ b. b.now) c.main_of-main.result) _ c.in-Ok.facts l.0 c.facts_list_each_statement.ensures.listed l.1 in
    search rules

pub serve_scripts-requires-clause-scripts : goal.serve_scripts-requires-clause-scripts
serve_scripts-requires-clause-scripts g c =
    let scripts : AreScripts c.items-scripts.result.now = subst AreScripts (sym c.items-scripts.ensures) c.requires in
    search rules

pub returns-in-Ok-clause-kinds : goal.returns-in-Ok-clause-kinds
returns-in-Ok-clause-kinds g c = served_kinds c.serve_scripts.result c.serve_scripts.ensures.kinds

pub returns-in-Ok-clause-done : goal.returns-in-Ok-clause-done
returns-in-Ok-clause-done g c = λ e.
    let h = g.H.Host in
    let b = c.args.host.now in
    let m = c.load.new.host in
    let s = c.serve_scripts in
    let a = s.new.host in
    let l = c.in-Ok.ensures.accepted in
    let its = its_facts (h.files b) c.args.request.now c.as_str-folder.result.now (option_map (λ b. b.now) c.main_of-main.result) _ c.in-Ok.facts l.0 c.as_str-folder.ensures c.main_of-main.ensures l.1 l.2 in
    done c.args.request.now c.requires (h.files b) (h.files m) (h.said b) (h.said m) c.items-scripts.result.now c.load.ensures.keeps.same_files c.load.ensures.keeps.same_said c.items-scripts.ensures (h.files a) (h.said a) c.in-Ok.facts its (s.ensures.done e)

pub returns-in-Ok-clause-refused : goal.returns-in-Ok-clause-refused
returns-in-Ok-clause-refused g c = λ e. absurd (never_refused c.serve_scripts.result c.serve_scripts.ensures.kinds e)

pub returns-in-Ok-clause-fault : goal.returns-in-Ok-clause-fault
returns-in-Ok-clause-fault g c = λ e.
    let h = g.H.Host in
    rose_before (h.faults c.args.host.now) (h.faults c.load.new.host) (h.faults c.serve_scripts.new.host) c.load.ensures.goes.count (c.serve_scripts.ensures.fault e)

pub returns-in-Ok-clause-cause : goal.returns-in-Ok-clause-cause
returns-in-Ok-clause-cause g c = λ e steady.
    let h = g.H.Host in
    let b = c.args.host.now in
    let m = c.load.new.host in
    let s = c.serve_scripts in
    let a = s.new.host in
    let l = c.in-Ok.ensures.accepted in
    let its = its_facts (h.files b) c.args.request.now c.as_str-folder.result.now (option_map (λ b. b.now) c.main_of-main.result) _ c.in-Ok.facts l.0 c.as_str-folder.ensures c.main_of-main.ensures l.1 l.2 in
    fails c.args.request.now c.requires (h.files b) (h.files m) (h.said b) (h.said m) c.items-scripts.result.now c.load.ensures.keeps.same_files c.load.ensures.keeps.same_said c.items-scripts.ensures (h.files a) (h.said a) c.in-Ok.facts its (s.ensures.cause e (c.load.ensures.goes.same_host ∙ steady))

pub returns-in-Ok-clause-ends : goal.returns-in-Ok-clause-ends
returns-in-Ok-clause-ends g c = λ e steady.
    let h = g.H.Host in
    let b = c.args.host.now in
    let m = c.load.new.host in
    ends c.args.request.now c.requires (h.files b) (h.files m) (h.said b) (h.said m) c.items-scripts.result.now c.load.ensures.keeps.same_files c.load.ensures.keeps.same_said c.items-scripts.ensures (h.source_steady b) (h.sink_steady b) (h.source_steady m) (h.sink_steady m) c.load.ensures.goes.same_sources c.load.ensures.goes.same_sinks
    (c.serve_scripts.ensures.ends e) steady

pub returns-in-Ok-clause-says : goal.returns-in-Ok-clause-says
returns-in-Ok-clause-says g c =
    let h = g.H.Host in
    let b = c.args.host.now in
    let m = c.load.new.host in
    let s = c.serve_scripts in
    let a = s.new.host in
    let l = c.in-Ok.ensures.accepted in
    let its = its_facts (h.files b) c.args.request.now c.as_str-folder.result.now (option_map (λ b. b.now) c.main_of-main.result) _ c.in-Ok.facts l.0 c.as_str-folder.ensures c.main_of-main.ensures l.1 l.2 in
    let t = s.ensures.says in (
      t.0,
      t.1 ∙ ap (λ (o : Option (List ℕ)). appended t.0 o) c.load.ensures.keeps.same_said,
      says c.args.request.now c.requires (h.files b) (h.files m) (h.said b) (h.said m) c.items-scripts.result.now c.load.ensures.keeps.same_files c.load.ensures.keeps.same_said c.items-scripts.ensures (h.files a) (h.source_steady b) (h.sink_steady b) (h.source_steady m) (h.sink_steady m) c.in-Ok.facts s.result t.0 c.load.ensures.goes.same_sources c.load.ensures.goes.same_sinks its t.2,
    )

pub returns-in-Ok-clause-files : goal.returns-in-Ok-clause-files
returns-in-Ok-clause-files g c =
    let h = g.H.Host in
    let b = c.args.host.now in
    let m = c.load.new.host in
    let s = c.serve_scripts in
    let a = s.new.host in
    let l = c.in-Ok.ensures.accepted in
    let its = its_facts (h.files b) c.args.request.now c.as_str-folder.result.now (option_map (λ b. b.now) c.main_of-main.result) _ c.in-Ok.facts l.0 c.as_str-folder.ensures c.main_of-main.ensures l.1 l.2 in
    keeps c.args.request.now c.requires (h.files b) (h.files m) (h.said b) (h.said m) c.items-scripts.result.now c.load.ensures.keeps.same_files c.load.ensures.keeps.same_said c.items-scripts.ensures (h.files a) c.in-Ok.facts its s.ensures.files

pub returns-in-Ok-clause-goes : goal.returns-in-Ok-clause-goes
returns-in-Ok-clause-goes g c =
    let h = g.H.Host in
    goes_on h.faults h.steady h.source_steady h.sink_steady c.args.host.now c.load.new.host c.serve_scripts.new.host c.load.ensures.goes c.serve_scripts.ensures.goes

-- ---- it is not
pub returns-clause-refused : goal.returns-clause-refused
returns-clause-refused g c = λ e.
    let h = g.H.Host in
    let b = c.args.host.now in
    let a = c.unloaded.new.host in
    let u = c.unloaded.ensures in
    unloaded_refused c.args.request.now c.requires (h.files b) (h.files a) c.as_str-folder.result.now (option_map (λ b. b.now) c.main_of-main.result) c.as_str-folder.ensures c.main_of-main.ensures c.in-Err.error
    (λ text is. c.load.ensures.refused text (c.in-Err.is ∙ ap (λ (x : LoadError). Err x) is)) (h.said b) (h.said a) c.unloaded.result u.says.0 (u.files ∙ c.load.ensures.keeps.same_files)
    (u.says.1 ∙ ap (λ (o : Option (List ℕ)). appended u.says.0 o) c.load.ensures.keeps.same_said) u.says.2 e

pub returns-clause-cause : goal.returns-clause-cause
returns-clause-cause g c = λ e steady.
    let h = g.H.Host in
    let b = c.args.host.now in
    let a = c.unloaded.new.host in
    let u = c.unloaded.ensures in
    let k = u.sure (c.load.ensures.goes.same_host ∙ steady) e in
    no_folder_at c.args.request.now c.requires (h.files b) (h.files a) c.as_str-folder.result.now (h.said b) (h.said a) c.as_str-folder.ensures
    (c.load.ensures.cause (c.in-Err.is ∙ ap (λ (x : LoadError). Err x) k.0) steady) (u.files ∙ c.load.ensures.keeps.same_files)
    (k.1 ∙ ap (λ (o : Option (List ℕ)). appended host_fault_line o) c.load.ensures.keeps.same_said)

pub returns-clause-files : goal.returns-clause-files
returns-clause-files g c =
    keeps_same (g.H.Host.files c.args.host.now) (g.H.Host.files c.unloaded.new.host) (Some c.args.request.now) (c.unloaded.ensures.files ∙ c.load.ensures.keeps.same_files)
