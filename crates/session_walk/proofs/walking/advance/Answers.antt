use Rattle.std.proofs.Common.{rules, ap}
use Rattle.summary_memo.specs.Memo.{facts_of}
use Rattle.thin_slice.specs.Walks.{seeds_of}
use Rattle.session_walk.proofs.Going.{moved_rows}
use Rattle.session_walk.proofs.walking.advance.Goals as goal

pub returns-clause-fetched : goal.returns-clause-fetched
returns-clause-fetched c =
    moved_rows c.args.f.now c.args.mode (seeds_of c.args.walk.now) c.args.pass.now c.go.result (facts_of c.go.new.rows.memo.now) (facts_of c.args.memo.now)
    c.go.new.rows.seat.now c.seat-1.given.0 (ap facts_of c.go.ensures.later.memo) (search rules) c.go.ensures.fetched
