use Rattle.std.proofs.Common.{rules, ◌≡◌, ◌∙◌, ℕ, zero, List, Option, Err, IfSome, length, take, refl, sym, ap, subst, arith}
use Rattle.std.specs.Prelude.{Result}
use Rattle.std.proofs.lemmas.List.{take_all}
use Rattle.edge_io.specs.Files.{Files}
use Rattle.run_form.specs.Outputs.{AreFree}
use Rattle.serving.specs.declared.opening.Stop.{Stop}
use Rattle.serving.specs.declared.opening.Stop.TheVariants as stop
use Rattle.serving.specs.Ends.{AreApart, AreCreated, AreMade}
use Rattle.serving.proofs.Places.{take_from}
use Rattle.serving.proofs.MadeOutputs.{made_none}
use Rattle.serving.proofs.EmptyOutputs.{made_apart, same_stop}
use Rattle.serving.proofs.ServedScripts.{rose_then}
use Rattle.serving.proofs.ends.create_outputs.Goals as goal

pub close_empty-requires-after_bounds : goal.close_empty-requires-after_bounds
close_empty-requires-after_bounds g c =
    let host = g.H.Host in
    let sink = g.H.Out.Sink in
    let scripts = c.args.scripts.now in
    let made = c.create_all.new.made.items in
    let apart : AreApart sink.written sink.label made = made_apart sink.written sink.label sink.steady (host.files c.args.host.now) (host.sink_steady c.args.host.now) scripts (take (length made) scripts) made c.requires (λ k s at. take_from scripts (length made) k s at) c.create_all.ensures.made in
    search rules

pub returns-in_default-clause-some : goal.returns-in_default-clause-some
returns-in_default-clause-some g c = (0, made_none (g.H.Host.files c.args.host.now) (g.H.Host.files c.args.host.now) refl)
