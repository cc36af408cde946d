use Rattle.std.proofs.Common.{◌≡◌, ℕ, List, length, inl, inr, refl, sym, subst, ap, arith}
use Rattle.slicer_ids.specs.declared.ids.NodeId.{NodeId}
use Rattle.tabulate.specs.declared.found.Found.{Found}
use Rattle.tabulate.specs.Frames.{width, method_of}
use Rattle.tabulate.specs.Found.{Got, Todo}
use Rattle.tabulate.specs.States.{Holds, IsDone, IsNext, IsTakenUp, Open, OfNode}
use Rattle.tabulate.proofs.Bounds.{total_below}
use Rattle.tabulate.proofs.MeetLaws.{match_some, match_none}
use Rattle.tabulate.proofs.DoneLaws.{done_taken}
use Rattle.tabulate.proofs.Backward.{holds_next}
use Rattle.tabulate.specs.Tables.{IsFirst}
use Rattle.tabulate.proofs.tabulation.run.Goals as goal

pub loop-buffers-init : goal.loop-buffers-init
loop-buffers-init g c = record {
  graphs = (c.requires.graphs.0, g.met.G.Graphs.later_refl c.args.graphs.now);
  rows = (c.requires.rows.0, g.met.R.Rows.later_refl c.args.rows.now);
  holds = c.requires.holds;
  done = c.requires.done;
  more = λ d k. k;
  wanting = λ d k. inl k;
  turns = refl;
}

pub loop-buffers-preserved : goal.loop-buffers-preserved
loop-buffers-preserved g c =
    let l = c.loop-buffers in
    let r = c.in_ok-go_back.ensures in
    record {
      graphs = (r.graphs.0, g.met.G.Graphs.later_trans c.args.graphs.now l.graphs c.go_back.new.graphs l.invariant.graphs.1 r.graphs.1);
      rows = (r.rows.0, g.met.R.Rows.later_trans c.args.rows.now l.rows c.go_back.new.rows l.invariant.rows.1 r.rows.1);
      holds = r.holds;
      done = r.done;
      more = λ d k. r.more d (l.invariant.more d k);
      wanting = λ d k. elim (r.wanting d k) [ inl o ↦ l.invariant.wanting d o | inr n ↦ inr (λ had. n (g.met.R.Rows.later_surely c.args.rows.now l.rows d c.args.mode l.invariant.rows.1 had)) ];
      turns = omega (arith, l.invariant.turns, c.take_next.ensures.total, r.turns);
    }

pub loop-buffers-smaller : goal.loop-buffers-smaller
loop-buffers-smaller g c =
    let p = c.args.f.now in
    let l = c.loop-buffers in
    let r = c.in_ok-go_back.ensures in
    let next : IsNext p l.found.items c.take_next.new.found.items l.queue.items c.take_next.new.queue.items c.in-Some.n c.take_next.new.delta.items = match_some _ _ c.in_ok-n.field-0 c.in-Some.n c.in-Some.is c.in_ok-n.ensures.taken in
    omega (arith, total_below p c.go_back.new.found.items r.holds.found, c.take_next.ensures.total, r.turns, r.work, ap length next.items)

pub go_back-requires-clause-delta : goal.go_back-requires-clause-delta
go_back-requires-clause-delta g c =
    let p = c.args.f.now in
    let l = c.loop-buffers in
    let next : IsNext p l.found.items c.take_next.new.found.items l.queue.items c.take_next.new.queue.items c.in-Some.n c.take_next.new.delta.items = match_some _ _ c.in_ok-n.field-0 c.in-Some.n c.in-Some.is c.in_ok-n.ensures.taken in
    subst (λ (xs : List ℕ). (length xs ≡ width p (method_of p c.in-Some.n.0)) × IsTakenUp p c.take_next.new.found.items c.in-Some.n xs) (sym c.deref.ensures.value)
    (next.takes.len, λ x b. next.takes.got (c.in-Some.n.0, x) (l.invariant.done.sub (c.in-Some.n.0, x) (next.takes.found x b)))

pub go_back-requires-clause-holds : goal.go_back-requires-clause-holds
go_back-requires-clause-holds g c =
    let p = c.args.f.now in
    let l = c.loop-buffers in
    let next : IsNext p l.found.items c.take_next.new.found.items l.queue.items c.take_next.new.queue.items c.in-Some.n c.take_next.new.delta.items = match_some _ _ c.in_ok-n.field-0 c.in-Some.n c.in-Some.is c.in_ok-n.ensures.taken in
    holds_next p c.args.mode (IsFirst c.args.e c.args.more.now) (λ d. g.R.Rows.surely l.rows d c.args.mode) l.methods.items l.hands l.asked.items l.found.items l.queue.items l.invariant.holds c.take_next.new.found.items c.take_next.new.queue.items c.in-Some.n c.take_next.new.delta.items next

pub go_back-requires-clause-done : goal.go_back-requires-clause-done
go_back-requires-clause-done g c =
    let p = c.args.f.now in
    let l = c.loop-buffers in
    let next : IsNext p l.found.items c.take_next.new.found.items l.queue.items c.take_next.new.queue.items c.in-Some.n c.take_next.new.delta.items = match_some _ _ c.in_ok-n.field-0 c.in-Some.n c.in-Some.is c.in_ok-n.ensures.taken in
    subst (λ (xs : List ℕ). IsDone p c.args.mode l.hands (Got p c.take_next.new.found.items) (Open (Todo p c.take_next.new.found.items) (OfNode c.in-Some.n xs))) (sym c.deref.ensures.value)
    (done_taken p c.args.mode l.hands l.found.items c.take_next.new.found.items c.in-Some.n c.take_next.new.delta.items next.takes l.invariant.done)

pub returns-clause-holds : goal.returns-clause-holds
returns-clause-holds g c =
    let p = c.args.f.now in
    let l = c.loop-buffers in
    let none = match_none _ _ c.in_ok-n.field-0 c.in_default.is c.in_ok-n.ensures.taken in
    subst (λ (ts : List Found). Holds p c.args.mode (IsFirst c.args.e c.args.more.now) (λ d. g.R.Rows.surely l.rows d c.args.mode) l.methods.items l.hands l.asked.items ts c.take_next.new.queue.items) (sym none.2)
    (subst (λ (ys : List NodeId). Holds p c.args.mode (IsFirst c.args.e c.args.more.now) (λ d. g.R.Rows.surely l.rows d c.args.mode) l.methods.items l.hands l.asked.items l.found.items ys) (sym none.1) l.invariant.holds)
