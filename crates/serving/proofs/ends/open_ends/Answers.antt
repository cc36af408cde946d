use Rattle.std.proofs.Common.{rules, ◌≡◌, ◌∙◌, ℕ, Bool, List, Option, Some, Err, IfSome, take, sym, ap, subst}
use Rattle.std.specs.Prelude.{Result, Ok, OnErr}
use Rattle.dep_form.specs.declared.facts.Facts.{Facts}
use Rattle.edge_io.specs.Files.{Files}
use Rattle.folder_reader.proofs.Kept.{goes_then}
use Rattle.run_form.specs.Outputs.{AreFree, IsFirstFolder}
use Rattle.serving.specs.declared.opening.Stop.{Stop}
use Rattle.serving.specs.declared.opening.Stop.TheVariants as stop
use Rattle.serving.specs.Served.{KeepsPaths}
use Rattle.serving.specs.Ends.{AreCreated, AreMade}
use Rattle.serving.proofs.EmptyOutputs.{made_apart, are_files, unchanged, made_keeps, no_script_there, no_output_there, same_stop}
use Rattle.serving.proofs.ServedScripts.{rose_later}
use Rattle.serving.proofs.ends.open_ends.Goals as goal

any_err : {A E : Type 0} (r : Result A E) (P : Type 0) → P → OnErr r P
any_err (Ok x) P p = tt
any_err (Err e) P p = p

pub returns-in_err-sources-clause-unready : goal.returns-in_err-sources-clause-unready
returns-in_err-sources-clause-unready g c =
    any_err c.from_residual.result ((f : Facts) → KeepsPaths f (g.H.Host.files c.args.host.now) (g.H.Host.files c.open_all.new.host) c.args.scripts.now)
    (λ f. unchanged f (g.H.Host.files c.args.host.now) (g.H.Host.files c.open_all.new.host) c.args.scripts.now c.in_err-sources.ensures.keeps.same_files)

pub returns-in_err-sources-clause-cause : goal.returns-in_err-sources-clause-cause
returns-in_err-sources-clause-cause g c = λ e steady.
    no_script_there (g.H.Host.files c.args.host.now) (g.H.Host.files c.open_all.new.host) c.args.scripts.now c.in_err-sources.ensures.keeps.same_files (c.open_all.ensures.cause (search rules) steady)

pub returns-in-Ok-clause-apart : goal.returns-in-Ok-clause-apart
returns-in-Ok-clause-apart g c =
    let host = g.H.Host in
    let sink = g.H.Out.Sink in
    made_apart sink.written sink.label sink.steady (host.files c.open_all.new.host) (host.sink_steady c.open_all.new.host) c.args.scripts.now c.args.scripts.now c.in-Ok.sinks.items c.requires (λ k s at. at) c.in-Ok.ensures.made

pub returns-in-Err-clause-unready : goal.returns-in-Err-clause-unready
returns-in-Err-clause-unready g c = λ f.
    let host = g.H.Host in
    let a = c.in_ok-sources.ensures in
    let p = c.in-Err.ensures.some in
    let scripts = c.args.scripts.now in
    made_keeps f (host.files c.args.host.now) (host.files c.create_outputs.new.host) scripts p.0 c.requires
    (are_files g.H.In.Source.left g.H.In.Source.steady (host.files c.args.host.now) (host.source_steady c.args.host.now) scripts c.in_ok-sources.sources.items a.opened)
    (subst (λ (o : Option Files). AreCreated (take p.0 scripts) o (host.files c.create_outputs.new.host)) a.keeps.same_files p.1)

pub returns-in-Err-clause-cause : goal.returns-in-Err-clause-cause
returns-in-Err-clause-cause g c = λ e steady.
    let host = g.H.Host in
    let a = c.in_ok-sources.ensures in
    let p = c.in-Err.ensures.cause (ap (λ (s : Stop). Err s) (same_stop c.in-Err.stop stop.Host e)) (a.goes.same_host ∙ steady) in
    let scripts = c.args.scripts.now in
    no_output_there (host.files c.args.host.now) (host.files c.create_outputs.new.host) scripts
    (are_files g.H.In.Source.left g.H.In.Source.steady (host.files c.args.host.now) (host.source_steady c.args.host.now) scripts c.in_ok-sources.sources.items a.opened) p.0
    (subst (λ (o : Option Files). AreCreated (take p.0 scripts) o (host.files c.create_outputs.new.host)) a.keeps.same_files p.1)
    (subst (λ (o : Option Files). IfSome o (λ m. IsFirstFolder m scripts p.0)) a.keeps.same_files p.2)
