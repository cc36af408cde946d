use Rattle.std.proofs.Common.{List, Contains, subst}
use Rattle.slicer_ids.specs.declared.ids.ExitId.{ExitId}
use Rattle.summary_memo.specs.Memo.{view_of}
use Rattle.summary_memo.proofs.Knowing.{knows_all}
use Rattle.session_walk.proofs.walking.fetch_row.Goals as goal

pub row_with-requires-clause-exits : goal.row_with-requires-clause-exits
row_with-requires-clause-exits g c = λ d k. c.in_ok-more.ensures.exits d (subst (λ (ys : List ExitId). Contains ys d) c.deref.ensures.value k)

pub returns-in_err-row_with-clause-knows : goal.returns-in_err-row_with-clause-knows
returns-in_err-row_with-clause-knows g c = knows_all (view_of c.args.seat.now) (view_of c.ahead.new.seat) (view_of c.row_with.new.seat) c.ahead.ensures.knows c.row_with.ensures.knows

pub returns-clause-knows : goal.returns-clause-knows
returns-clause-knows g c = knows_all (view_of c.args.seat.now) (view_of c.ahead.new.seat) (view_of c.row_with.new.seat) c.ahead.ensures.knows c.row_with.ensures.knows
