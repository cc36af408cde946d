use Rattle.std.proofs.Common.{arith, ◌+◌, ◌∙◌, ℕ, List, map, ap, refl}
use Rattle.std.proofs.lemmas.List.{take_all}
use Rattle.edge_io.specs.Reads.{appended}
use Rattle.sessions.specs.declared.desk.Outcome.{Outcome}
use Rattle.run_form.specs.Said.{session_lines}
use Rattle.serving.specs.Attended.{ending_of}
use Rattle.folder_reader.proofs.Kept.{goes_then}
use Rattle.serving.proofs.SaidLines.{one_more, lines_so_far, said_nothing}
use Rattle.serving.proofs.saying.say_all.Goals as goal

pub loop-outcome-init : goal.loop-outcome-init
loop-outcome-init g c =
    let host = g.H.Host in
    record {
      number = omega arith;
      said = said_nothing (host.said c.args.host.now) (host.said c.args.host.now) refl;
      files = refl;
      goes = record { count = omega arith; same_host = refl; same_sources = refl; same_sinks = refl };
    }

pub loop-outcome-preserved : goal.loop-outcome-preserved
loop-outcome-preserved g c =
    let host = g.H.Host in
    let l = c.loop-outcome in
    let old = c.args.host.now in
    let new = c.say_summary.new.host in
    let e = c.in_ok-say_summary.ensures in
    record {
      number = ap (λ (n : ℕ). n + 1) l.invariant.number;
      said = one_more c.args.outcomes.now l.outcome-index l.number _ (host.said old) (host.said l.host) (host.said new) l.invariant.number c.loop-outcome-test.true l.invariant.said e.said;
      files = e.files ∙ l.invariant.files;
      goes = goes_then host.faults host.steady host.source_steady host.sink_steady old l.host new l.invariant.goes e.goes;
    }

pub returns-in_err-say_summary-clause-some : goal.returns-in_err-say_summary-clause-some
returns-in_err-say_summary-clause-some g c =
    let said = g.H.Host.said in
    let l = c.loop-outcome in
    lines_so_far c.args.outcomes.now l.outcome-index (said c.args.host.now) (said c.say_summary.new.host) (c.in_err-say_summary.ensures.unsaid ∙ l.invariant.said)

pub returns-clause-some : goal.returns-clause-some
returns-clause-some g c =
    let said = g.H.Host.said in
    let l = c.loop-outcome in
    lines_so_far c.args.outcomes.now l.outcome-index (said c.args.host.now) (said l.host) l.invariant.said

pub returns-clause-said : goal.returns-clause-said
returns-clause-said g c =
    let said = g.H.Host.said in
    let l = c.loop-outcome in
    l.invariant.said ∙ ap (λ (os : List Outcome). appended (session_lines 1 (map ending_of os)) (said c.args.host.now)) (take_all l.outcome-index c.args.outcomes.now (omega (arith, c.loop-outcome-test.false)))
