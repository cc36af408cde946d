use Rattle.std.proofs.Common.{◌∙◌, Some, arith, refl, sym, ap, length}
use Rattle.std.proofs.lemmas.Option.{slice_get-get_or}
use Rattle.std.proofs.lemmas.Iterator.Adapters.{YieldsList-from_vec}
use Rattle.std.proofs.lemmas.Iterator.Consumers.{YieldsList-turn, YieldsList-so_far, YieldsList-end}
use Rattle.folder_reader.proofs.Kept.{goes_then}
use Rattle.serving.proofs.ClosedSinks.{closed_none, closed_next}
use Rattle.serving.proofs.ClosedSoFar.{fault_next, apart_next, sure_next, sure_none, are_closed, are_kept}
use Rattle.serving.proofs.closing.close_all.Goals as goal

pub loop-sink-init : goal.loop-sink-init
loop-sink-init g c =
    let host = g.H.Host in
    let files = host.files c.args.host.now in
    record {
      closed = closed_none g.H.Out.Sink.written g.H.Out.Sink.label files files _ refl;
      fault = λ e. absurd cc;
      sure = λ steady. sure_none files _;
      goes = record { count = omega arith; same_host = refl; same_sources = refl; same_sinks = refl };
      said = refl;
    }

pub loop-sink-preserved : goal.loop-sink-preserved
loop-sink-preserved g c =
    let host = g.H.Host in
    let sink = g.H.Out.Sink in
    let l = c.loop-sink in
    let old = c.args.host.now in
    let new = c.close_one-all.new.host in
    let b = c.into_iter-sink-iterator.ensures.into_iter_gives in
    let road = YieldsList-from_vec {s = c.into_iter-sink-iterator.result} c.args.sinks.items b.0 (b.1 ∙ c.args.sinks.ok.0) in
    let turn = YieldsList-turn road l.yielded l.sink-iterator l.yielded_by c.next.result c.next.new.self c.in-Some.sink c.in-Some.is c.next.ensures.steps in
    let so_far = YieldsList-so_far road l.yielded l.sink-iterator l.yielded_by in
    let apart = apart_next sink.written sink.label c.args.sinks.items l.yielded c.in-Some.sink c.requires so_far turn in
    let at = slice_get-get_or c.args.sinks.items (length l.yielded) c.in-Some.sink turn.0 ∙ ap Some (sym turn.1) in
    let e = c.close_one-all.ensures in
    record {
      closed = closed_next sink.written sink.label (host.files old) (host.files l.host) (host.files new) l.yielded c.in-Some.sink l.all c.close_one-all.result apart l.invariant.closed e.before e.closed e.kept;
      fault = fault_next (host.faults old) (host.faults l.host) (host.faults new) l.all c.close_one-all.result l.invariant.goes.count e.goes.count l.invariant.fault e.fault;
      sure = λ steady. sure_next sink.written sink.label c.args.sinks.items l.yielded c.in-Some.sink c.requires so_far turn (host.files old) (host.files l.host) l.all c.close_one-all.result at l.invariant.closed (l.invariant.sure steady)
          (λ a. e.sure (l.invariant.goes.same_host ∙ steady) a);
      goes = goes_then host.faults host.steady host.source_steady host.sink_steady old l.host new l.invariant.goes e.goes;
      said = e.said ∙ l.invariant.said;
    }

pub returns-clause-closed : goal.returns-clause-closed
returns-clause-closed g c = λ e.
    let host = g.H.Host in
    let sink = g.H.Out.Sink in
    let l = c.loop-sink in
    let b = c.into_iter-sink-iterator.ensures.into_iter_gives in
    let end = YieldsList-end (YieldsList-from_vec {s = c.into_iter-sink-iterator.result} c.args.sinks.items b.0 (b.1 ∙ c.args.sinks.ok.0)) l.yielded l.sink-iterator l.yielded_by c.next.result c.next.new.self c.in-None.is c.next.ensures.steps in
    are_closed sink.written sink.label (host.files c.args.host.now) (host.files l.host) l.yielded l.all l.invariant.closed c.args.sinks.items end.0 e

pub returns-clause-kept : goal.returns-clause-kept
returns-clause-kept g c =
    let host = g.H.Host in
    let sink = g.H.Out.Sink in
    let l = c.loop-sink in
    let b = c.into_iter-sink-iterator.ensures.into_iter_gives in
    let end = YieldsList-end (YieldsList-from_vec {s = c.into_iter-sink-iterator.result} c.args.sinks.items b.0 (b.1 ∙ c.args.sinks.ok.0)) l.yielded l.sink-iterator l.yielded_by c.next.result c.next.new.self c.in-None.is c.next.ensures.steps in
    are_kept sink.written sink.label (host.files c.args.host.now) (host.files l.host) l.yielded l.all l.invariant.closed c.args.sinks.items end.0
