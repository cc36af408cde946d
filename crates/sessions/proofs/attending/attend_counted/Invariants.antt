use Rattle.std.proofs.Common.{◌≡◌, ◌≤◌, ◌-◌, ℕ, List, Option, true}
use Rattle.script_lines.specs.Limits.{most_bytes}
use Rattle.graph_store.specs.Store.{Keeps}
use Rattle.summary_memo.specs.Memo.{view_of}
use Rattle.summary_memo.specs.Rule.{Knows}
use Rattle.sessions.specs.Sessions.{IsSessionOf}
use Rattle.sessions.specs.Desks.{IsSinkLater}
use Rattle.sessions.specs.Serving.{IsServed}
use Rattle.sessions.proofs.attending.attend_counted.Given as goal

abbrev pub invariant-loop-outcome : goal.invariant-loop-outcome
invariant-loop-outcome g l =
    let left = g.S.Source.left in
    let faults = g.S.Source.faults in
    let steady = g.S.Source.steady in
    let written = g.K.Sink.written in
    record {
      session : IsSessionOf l.shared l.desk.session;
      keeps : Keeps l.fn.desk.session.pass l.desk.session.pass;
      knows : Knows (view_of l.fn.desk.session.seat) (view_of l.desk.session.seat);
      count : l.count ≤ l.desk.reader.bytes;
      served : (script : List ℕ) (start : Option (List ℕ)) → IsServed l.shared.facts script start l.fn.desk.reader (left l.fn.desk.source) l.fn.desk.session (written l.fn.desk.sink) 0
          → IsServed l.shared.facts script start l.desk.reader (left l.desk.source) l.desk.session (written l.desk.sink) l.count;
      sink : IsSinkLater g.K.Sink.written g.K.Sink.label g.K.Sink.faults g.K.Sink.steady l.fn.desk.sink l.desk.sink;
      source : faults l.fn.desk.source ≤ faults l.desk.source;
      as_steady : steady l.desk.source ≡ steady l.fn.desk.source;
      still : steady l.fn.desk.source ≡ true → faults l.desk.source ≡ faults l.fn.desk.source;
    }

abbrev pub decreases-loop-outcome : goal.decreases-loop-outcome
decreases-loop-outcome g l = most_bytes - l.desk.reader.bytes
