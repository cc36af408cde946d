use Rattle.std.proofs.Common.{sym}
use Rattle.std.specs.Prelude.{◌↔◌, Contains}
use Rattle.slicer_ids.specs.declared.ids.NodeId.{NodeId}
use Rattle.summary_memo.specs.Memo.{view_of}
use Rattle.thin_slice.specs.Walks.{ModeSlice, nodes_of, seeds_of}
use Rattle.session_walk.specs.Knowledge.{Sees, KnowsRows}
use Rattle.session_walk.proofs.Going.{is_named, served_kept, none_named, less_since, is_finished, keeps_self, no_row_named}
use Rattle.session_walk.proofs.walking.step.Goals as goal

pub returns-then-not-names-clause-slice : goal.returns-then-not-names-clause-slice
returns-then-not-names-clause-slice g c = λ r.
    is_finished c.advance-go.result ((n : NodeId) → Contains (nodes_of c.advance-go.new.walk) n ↔ ModeSlice c.args.f.now c.args.mode (seeds_of c.args.walk.now) n)
    (sym c.if-not-names.ensures) c.advance-go.ensures.slice

pub fetch-requires-clause-named : goal.fetch-requires-clause-named
fetch-requires-clause-named g c =
    is_named c.args.f.now c.args.mode (seeds_of c.args.walk.now) (Sees c.args.f.now c.args.pass.now) (KnowsRows c.args.f.now c.args.mode (view_of c.advance-go.new.seat)) c.advance-go.result c.advance-go.ensures.cause

pub returns-in_err-fetch-clause-had : goal.returns-in_err-fetch-clause-had
returns-in_err-fetch-clause-had g c = λ all.
    absurd (none_named c.args.f.now c.args.mode c.args.pass.now c.args.pass.now (view_of c.args.seat.now) (view_of c.advance-go.new.seat) (keeps_self c.args.pass.now) c.advance-go.ensures.knows
    (seeds_of c.args.walk.now) c.advance-go.result all c.advance-go.ensures.cause (sym c.if-not-names.ensures))

pub returns-clause-served : goal.returns-clause-served
returns-clause-served g c =
    served_kept c.args.f.now c.args.mode c.args.pass.now c.fetch.new.pass (view_of c.advance-go.new.seat) (view_of c.fetch.new.seat) c.in_ok-fetch.ensures.keeps c.in_ok-fetch.ensures.knows
    c.advance-go.new.walk c.advance-go.ensures.served

pub returns-clause-less : goal.returns-clause-less
returns-clause-less g c = λ r.
    less_since c.args.f.now c.args.mode c.args.pass.now c.fetch.new.pass (view_of c.args.seat.now) (view_of c.advance-go.new.seat) (view_of c.fetch.new.seat)
    c.in_ok-fetch.ensures.keeps c.advance-go.ensures.knows c.in_ok-fetch.ensures.knows (seeds_of c.args.walk.now) c.advance-go.result c.requires.inputs c.advance-go.ensures.cause
    (sym c.if-not-names.ensures) c.in_ok-fetch.ensures.fetched

pub returns-clause-had : goal.returns-clause-had
returns-clause-had g c = λ all.
    absurd (none_named c.args.f.now c.args.mode c.args.pass.now c.args.pass.now (view_of c.args.seat.now) (view_of c.advance-go.new.seat) (keeps_self c.args.pass.now) c.advance-go.ensures.knows
    (seeds_of c.args.walk.now) c.advance-go.result all c.advance-go.ensures.cause (sym c.if-not-names.ensures))

pub returns-in_err-fetch-clause-rows : goal.returns-in_err-fetch-clause-rows
returns-in_err-fetch-clause-rows g c = λ has.
    c.in_err-fetch.ensures.no_turn
    (no_row_named c.args.f.now c.args.mode (seeds_of c.args.walk.now) (Sees c.args.f.now c.args.pass.now) (view_of c.args.seat.now) (view_of c.advance-go.new.seat) c.advance-go.result
    c.advance-go.ensures.knows has c.advance-go.ensures.cause)

pub returns-clause-rows : goal.returns-clause-rows
returns-clause-rows g c = λ has.
    c.in_ok-fetch.ensures.no_turn
    (no_row_named c.args.f.now c.args.mode (seeds_of c.args.walk.now) (Sees c.args.f.now c.args.pass.now) (view_of c.args.seat.now) (view_of c.advance-go.new.seat) c.advance-go.result
    c.advance-go.ensures.knows has c.advance-go.ensures.cause)
