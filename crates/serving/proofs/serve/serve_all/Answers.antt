use Rattle.std.proofs.Common.{subst}
use Rattle.sessions.specs.declared.desk.Desk.{Desk}
use Rattle.serving.specs.Attended.{IsAttended}
use Rattle.serving.proofs.serve.serve_all.Goals as goal

pub returns : goal.returns
returns g c = record {
  each = λ i d lt.
      let e = (c.for_each_mut.ensures i d lt).1 in
      let S = g.S.Source in
      let K = g.K.Sink in
      let P : Desk g.row.S.Denot g.row.K.Denot × Desk g.row.S.Denot g.row.K.Denot → Type 0 = λ p. IsAttended S.left S.faults S.steady K.written K.label K.faults K.steady c.args.shared.now p.0 p.1 in
      subst P (λ k. (e.argument_is k, e.left k)) e.call;
}
