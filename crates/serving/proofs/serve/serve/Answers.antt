use Rattle.std.proofs.Common.{◌≡◌, ◌<◌, List, length, sym, subst, rules, slice_index_or}
use Rattle.sessions.specs.declared.desk.Desk.{Desk}
use Rattle.serving.specs.Attended.{IsAttended}
use Rattle.serving.proofs.Attending.{whole}
use Rattle.serving.proofs.serve.serve.Goals as goal

pub returns-clause-each : goal.returns-clause-each
returns-clause-each g c = λ i d lt.
    let S = g.S.Source in
    let K = g.K.Sink in
    let all = c.as_mut_slice.ensures.value in
    let long : length c.serve_all.new.desks ≡ c.args.desks.now.len = search rules in
    rw (whole c.serve_all.new.desks c.args.desks.now.items c.args.desks.now.len long)
    (subst (λ (l : List (Desk g.row.S.Denot g.row.K.Denot)). IsAttended S.left S.faults S.steady K.written K.label K.faults K.steady c.args.shared.now (slice_index_or l i d) (slice_index_or c.serve_all.new.desks i d)) all (c.serve_all.ensures.each i d (subst (λ (l : List (Desk g.row.S.Denot g.row.K.Denot)). i < length l) (sym all) lt)))
