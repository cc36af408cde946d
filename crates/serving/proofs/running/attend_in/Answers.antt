use Rattle.std.proofs.Common.{rules, ◌≡◌, ◌≢◌, ◌<◌, ◌≤◌, ◌+◌, ◌++◌, ◌∙◌, ℕ, List, Option, Some, None, length, map, get_or, sym, ap, subst, arith}
use Rattle.sessions.specs.declared.desk.Desk.{Desk}
use Rattle.sessions.specs.declared.desk.Outcome.{Outcome}
use Rattle.serving.specs.Ends.{AreApart, AreMade}
use Rattle.serving.specs.Attended.{IsAttended}
use Rattle.serving.specs.Seated.{sink_at, outcome_at, HasOutcome}
use Rattle.serving.specs.AllEnded.{HaveAllEnded}
use Rattle.serving.proofs.SeatedDesks.{is_nil, seated_many, map_length}
use Rattle.serving.proofs.EndedSessions.{all_ended, apart_still}
use Rattle.serving.proofs.ServedScripts.{gave_up}
use Rattle.serving.proofs.running.attend_in.Goals as goal

pub returns-then-not-is_empty-clause-ran : goal.returns-then-not-is_empty-clause-ran
returns-then-not-is_empty-clause-ran g c = λ files scripts ready.
    let host = g.H.Host in
    let source = g.H.In.Source in
    let sink = g.H.Out.Sink in
    let old = c.args.host.now in
    let new = c.close_empty.new.host in
    let k = c.close_empty.ensures in
    let is : c.sinks_of-kept.result.items ≡ c.args.sinks.items = c.sinks_of-kept.ensures ∙ c.seat_all.ensures.sinks_of in
    let made = subst (λ (ks : List _). AreMade sink.written sink.label sink.steady files (host.sink_steady old) scripts ks) (sym is) ready.are_made in
    gave_up source.left source.steady sink.written sink.label sink.steady c.args.shared.now.facts files (host.files old) (host.files new) (host.said old) (host.said new) (host.source_steady old) (host.sink_steady old) (host.steady old) scripts
    c.args.sources.items c.args.sinks.items ready (k.files files (host.sink_steady old) scripts made ready.created) k.said

some_how : (o : Option Outcome) (how : Outcome) → o ≡ Some how → o ≢ None
some_how o how e none = absurd (let z : ◌≡◌ {A = Option Outcome} (Some how) None = sym e ∙ none in cc)

pub finish-requires-clause-apart : goal.finish-requires-clause-apart
finish-requires-clause-apart g c =
    let source = g.H.In.Source in
    let sink = g.H.Out.Sink in
    let none = is_nil c.seat_all.new.back.items c.seat_all.new.back.len c.is_empty.result c.is_empty.ensures c.if-not-is_empty.false c.seat_all.new.back.ok.0 in
    let apart : AreApart sink.written sink.label c.sinks_of-taken.result.items = apart_still source.left source.faults source.steady sink.written sink.label sink.faults sink.steady c.args.shared.now c.args.sources.items c.args.sinks.items c.seat_all.new.desks.items c.serve.new.desks.items c.seat_all.new.back.items none
    c.seat_all.ensures c.serve.ensures.len c.serve.ensures.each c.sinks_of-taken.result.items c.sinks_of-taken.ensures c.requires.apart in
    search rules

pub returns-clause-ran : goal.returns-clause-ran
returns-clause-ran g c = λ files scripts ready.
    let host = g.H.Host in
    let source = g.H.In.Source in
    let sink = g.H.Out.Sink in
    let old = c.args.host.now in
    let none = is_nil c.seat_all.new.back.items c.seat_all.new.back.len c.is_empty.result c.is_empty.ensures c.if-not-is_empty.false c.seat_all.new.back.ok.0 in
    let are = c.outcomes_of-ended.ensures ∙ ap (λ (ds : List (Desk _ _)). map outcome_at ds) c.as_slice-attended.ensures.value in
    let h = all_ended source.left source.faults source.steady sink.written sink.label sink.faults sink.steady c.args.shared.now c.args.sources.items c.args.sinks.items c.seat_all.new.desks.items c.serve.new.desks.items c.seat_all.new.back.items none
    c.seat_all.ensures c.serve.ensures.len c.serve.ensures.each c.sinks_of-taken.result.items c.sinks_of-taken.ensures files (host.files old) (host.source_steady old) (host.sink_steady old) scripts ready c.outcomes_of-ended.result.items are in
    c.finish.ensures.ran c.args.shared.now.facts files (host.source_steady old) (host.sink_steady old) scripts
    (subst (λ (os : List Outcome). HaveAllEnded sink.written sink.label c.args.shared.now.facts files (host.files old) (host.source_steady old) (host.sink_steady old) scripts os c.sinks_of-taken.result.items) (sym c.as_slice-ends.ensures.value) h)
