use Rattle.std.proofs.Common.{rules, arith, ◌≡◌, ◌≤◌, ◌+◌, ◌∷◌, [], ℕ, List, IfSome, length, take, get_or, length-append, refl, sym, ap, subst, ◌∙◌}
use Rattle.std.proofs.lemmas.List.{get_or_read}
use Rattle.folder_reader.proofs.Kept.{goes_then}
use Rattle.run_form.specs.Outputs.{AreFree, IsFirstFolder}
use Rattle.serving.specs.Ends.{AreCreated, AreMade, no_pair}
use Rattle.serving.proofs.MadeOutputs.{made_none, free_none, created_next, free_next, first_folder, sink_next}
use Rattle.serving.proofs.opening.create_all.Goals as goal

pub loop-script-init : goal.loop-script-init
loop-script-init g c =
    let host = g.H.Host in
    let sink = g.H.Out.Sink in
    let files = host.files c.args.host.now in
    record {
      count = ap length c.requires.empty;
      room = c.requires.room;
      made = subst (λ ys. AreMade sink.written sink.label sink.steady files (host.sink_steady c.args.host.now) [] ys) (sym c.requires.empty) no_pair;
      created = made_none files files refl;
      free = free_none files;
      goes = record { count = omega arith; same_host = refl; same_sources = refl; same_sinks = refl };
      said = refl;
    }

pub loop-script-preserved : goal.loop-script-preserved
loop-script-preserved g c =
    let host = g.H.Host in
    let sink = g.H.Out.Sink in
    let l = c.loop-script in
    let old = c.args.host.now in
    let script = c.as_str.result.now in
    let lt = c.loop-script-test.true in
    let there : (d : List ℕ) → get_or c.args.scripts.now l.script-index d ≡ script = λ d. sym (get_or_read c.args.scripts.now l.script-index c.script-item.result lt c.script-item.is d) ∙ sym c.as_str.ensures in
    record {
      count = ap length c.keep.ensures.items ∙ (length-append l.made.items (c.in_ok-sink.sink ∷ []) ∙ ap (λ (n : ℕ). n + 1) l.invariant.count);
      room = subst (λ (n : ℕ). length c.args.scripts.now ≤ n) (sym c.keep.ensures.room) l.invariant.room;
      made = sink_next sink.written sink.label sink.steady (host.files old) (host.files l.host) (host.sink_steady old) (host.sink_steady l.host) c.args.scripts.now l.script-index script
          l.made.items c.keep.new.items.items c.in_ok-sink.sink lt there l.invariant.created l.invariant.goes.same_sinks l.invariant.made c.in_ok-sink.ensures.made c.keep.ensures.items;
      created = created_next (host.files old) (host.files l.host) c.args.scripts.now l.script-index script lt there l.invariant.created (host.files c.create_one.new.host) c.in_ok-sink.ensures.created;
      free = free_next (host.files old) (host.files l.host) c.args.scripts.now l.script-index script lt there l.invariant.created l.invariant.free c.in_ok-sink.ensures.place;
      goes = goes_then host.faults host.steady host.source_steady host.sink_steady old l.host c.create_one.new.host l.invariant.goes c.in_ok-sink.ensures.goes;
      said = c.in_ok-sink.ensures.said ∙ l.invariant.said;
    }

pub returns-in_err-sink-clause-made : goal.returns-in_err-sink-clause-made
returns-in_err-sink-clause-made g c =
    let host = g.H.Host in
    let sink = g.H.Out.Sink in
    let l = c.loop-script in
    subst (λ (n : ℕ). AreMade sink.written sink.label sink.steady (host.files c.args.host.now) (host.sink_steady c.args.host.now) (take n c.args.scripts.now) l.made.items) (sym l.invariant.count) l.invariant.made

pub returns-in_err-sink-clause-created : goal.returns-in_err-sink-clause-created
returns-in_err-sink-clause-created g c =
    let host = g.H.Host in
    let l = c.loop-script in
    let same = c.in_err-sink.ensures.unmade in
    subst (λ o. AreCreated (take (length l.made.items) c.args.scripts.now) (host.files c.args.host.now) o) (sym same)
    (subst (λ (n : ℕ). AreCreated (take n c.args.scripts.now) (host.files c.args.host.now) (host.files l.host)) (sym l.invariant.count) l.invariant.created)

pub returns-in_err-sink-clause-free : goal.returns-in_err-sink-clause-free
returns-in_err-sink-clause-free g c =
    let l = c.loop-script in
    subst (λ (n : ℕ). IfSome (g.H.Host.files c.args.host.now) (λ m. AreFree m (take n c.args.scripts.now))) (sym l.invariant.count) l.invariant.free

pub returns-in_err-sink-clause-cause : goal.returns-in_err-sink-clause-cause
returns-in_err-sink-clause-cause g c = λ e steady.
    let host = g.H.Host in
    let l = c.loop-script in
    let script = c.as_str.result.now in
    let lt = c.loop-script-test.true in
    let there : (d : List ℕ) → get_or c.args.scripts.now l.script-index d ≡ script = λ d. sym (get_or_read c.args.scripts.now l.script-index c.script-item.result lt c.script-item.is d) ∙ sym c.as_str.ensures in
    subst (λ (n : ℕ). IfSome (host.files c.args.host.now) (λ m. IsFirstFolder m c.args.scripts.now n)) (sym l.invariant.count)
    (first_folder (host.files c.args.host.now) (host.files l.host) c.args.scripts.now l.script-index script lt there l.invariant.created l.invariant.free
    (c.create_one.ensures.cause (search rules) (l.invariant.goes.same_host ∙ steady)))

pub returns-clause-made : goal.returns-clause-made
returns-clause-made g c =
    let host = g.H.Host in
    let sink = g.H.Out.Sink in
    let l = c.loop-script in
    subst (λ (n : ℕ). AreMade sink.written sink.label sink.steady (host.files c.args.host.now) (host.sink_steady c.args.host.now) (take n c.args.scripts.now) l.made.items) (sym l.invariant.count) l.invariant.made

pub returns-clause-created : goal.returns-clause-created
returns-clause-created g c =
    let host = g.H.Host in
    let l = c.loop-script in
    subst (λ (n : ℕ). AreCreated (take n c.args.scripts.now) (host.files c.args.host.now) (host.files l.host)) (sym l.invariant.count) l.invariant.created

pub returns-clause-free : goal.returns-clause-free
returns-clause-free g c =
    let l = c.loop-script in
    subst (λ (n : ℕ). IfSome (g.H.Host.files c.args.host.now) (λ m. AreFree m (take n c.args.scripts.now))) (sym l.invariant.count) l.invariant.free
