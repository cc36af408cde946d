use Rattle.std.proofs.Common.{rules, [], refl, sym, subst, ◌∙◌, arith}
use Rattle.std.proofs.lemmas.List.{get_or_read, take_all}
use Rattle.folder_reader.proofs.Kept.{goes_then, keeps_then}
use Rattle.serving.specs.Ends.{AreOpened, no_pair}
use Rattle.serving.proofs.OpenedScripts.{opened_more, no_file}
use Rattle.serving.proofs.opening.open_all.Goals as goal

pub loop-script-init : goal.loop-script-init
loop-script-init g c =
    let host = g.H.Host in
    let source = g.H.In.Source in
    record {
      opened = subst (λ ss. AreOpened source.left source.steady (host.files c.args.host.now) (host.source_steady c.args.host.now) [] ss) (sym c.new-opened.ensures.items) no_pair;
      goes = record { count = omega arith; same_host = refl; same_sources = refl; same_sinks = refl };
      keeps = record { same_files = refl; same_said = refl };
    }

pub loop-script-preserved : goal.loop-script-preserved
loop-script-preserved g c =
    let host = g.H.Host in
    let l = c.loop-script in
    record {
      opened = opened_more g.H.In.Source.left g.H.In.Source.steady (host.files c.args.host.now) (host.files l.host) (host.source_steady c.args.host.now) (host.source_steady l.host) l.invariant.keeps.same_files l.invariant.goes.same_sources
          c.args.scripts.now l.script-index c.as_str.result.now c.loop-script-test.true (λ d. sym (get_or_read c.args.scripts.now l.script-index c.script-item.result c.loop-script-test.true c.script-item.is d) ∙ sym c.as_str.ensures)
          l.opened.items c.open_one.new.opened.items l.invariant.opened c.in_ok-open_one.ensures.opened;
      goes = goes_then host.faults host.steady host.source_steady host.sink_steady c.args.host.now l.host c.open_one.new.host l.invariant.goes c.in_ok-open_one.ensures.goes;
      keeps = keeps_then host.files host.said c.args.host.now l.host c.open_one.new.host l.invariant.keeps c.in_ok-open_one.ensures.keeps;
    }

pub returns-in_err-open_one-clause-cause : goal.returns-in_err-open_one-clause-cause
returns-in_err-open_one-clause-cause g c = λ e steady.
    let host = g.H.Host in
    let l = c.loop-script in
    no_file g.H.In.Source.left g.H.In.Source.steady (host.files c.args.host.now) (host.files l.host) (host.source_steady c.args.host.now) (host.source_steady l.host) l.invariant.keeps.same_files l.invariant.goes.same_sources
    c.args.scripts.now l.script-index c.as_str.result.now c.loop-script-test.true (λ d. sym (get_or_read c.args.scripts.now l.script-index c.script-item.result c.loop-script-test.true c.script-item.is d) ∙ sym c.as_str.ensures)
    (c.open_one.ensures.cause (search rules) (l.invariant.goes.same_host ∙ steady))

pub returns-clause-opened : goal.returns-clause-opened
returns-clause-opened g c =
    let host = g.H.Host in
    let l = c.loop-script in
    subst (λ ss. AreOpened g.H.In.Source.left g.H.In.Source.steady (host.files c.args.host.now) (host.source_steady c.args.host.now) ss l.opened.items)
    (take_all l.script-index c.args.scripts.now (omega (arith, c.loop-script-test.false))) l.invariant.opened
