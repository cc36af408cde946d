use Rattle.std.proofs.Common.{◌≡◌, ◌↔◌, ℕ, List, Contains, AllPairs, Option, Some, None, refl, sym, subst, ◌∙◌}
use Rattle.std.specs.Prelude.{IfSome, OnOk, OnErr}
use Rattle.slicer_ids.specs.declared.ids.Statement.{Statement}
use Rattle.slicer_ids.specs.Order.{StatementBefore}
use Rattle.sessions.specs.declared.widened.Widened.{Widened}
use Rattle.sessions.specs.Widened.{IsKeptOf, KeepsSlice, accesses_in}
use Rattle.sessions.specs.Turns.{TakesTurns}
use Rattle.session_form.specs.States.{SeedNodes}
use Rattle.widening.specs.Widened.{seeds_of}
use Rattle.session_walk.proofs.Going.{keeps_all}
use Rattle.sessions.proofs.Keeping.{keeps_none, kept_after, keeps_widened, turns_after}
use Rattle.sessions.proofs.widened.widen_kept.Goals as goal

pub begun-requires-clause-kept : goal.begun-requires-clause-kept
begun-requires-clause-kept g c = subst (IsKeptOf c.args.f.now c.args.state.now) (sym c.take.ensures.value) c.requires.kept

pub returns-in_err-widened-clause-kept : goal.returns-in_err-widened-clause-kept
returns-in_err-widened-clause-kept g c = subst (IsKeptOf c.args.f.now c.args.state.now) (sym c.take.ensures.after) tt

pub returns-in_err-widened-clause-slice : goal.returns-in_err-widened-clause-slice
returns-in_err-widened-clause-slice g c = subst (λ (k : Option Widened). KeepsSlice k c.take.new.self) c.take.ensures.value (keeps_none c.take.result c.take.new.self _ c.args.steps.now c.begun.new.steps c.in_err-widened.ensures.same)

pub widen-grown-requires-clause-widened : goal.widen-grown-requires-clause-widened
widen-grown-requires-clause-widened g c = c.in_ok-widened.ensures.widened.of_seeds.widened

pub widen-grown-requires-clause-order : goal.widen-grown-requires-clause-order
widen-grown-requires-clause-order g c = subst (AllPairs StatementBefore) (sym c.expanded.ensures) c.requires.expanded

pub widen-grown-requires-clause-more : goal.widen-grown-requires-clause-more
widen-grown-requires-clause-more g c = subst (λ (xs : List Statement). (s : Statement) → Contains c.in_ok-widened.widened.accesses.items s → Contains xs s) (sym c.expanded.ensures) c.in_ok-widened.ensures.widened.within

pub returns-clause-keeps : goal.returns-clause-keeps
returns-clause-keeps g c = keeps_all c.args.pass.now c.begun.new.pass c.widen-grown.new.pass c.begun.ensures.keeps c.widen-grown.ensures.keeps

pub returns-clause-kept : goal.returns-clause-kept
returns-clause-kept g c =
    let w = c.in_ok-widened.widened in
    let v = c.widen-grown.new.self in
    let all = subst (λ (xs : List Statement). OnOk c.widen-grown.result ((s : Statement) → Contains v.accesses.items s ↔ Contains xs s)) c.expanded.ensures c.widen-grown.ensures.accesses in
    kept_after c.args.f.now c.args.state.now w v c.widen-grown.result c.in_ok-widened.ensures.widened all c.widen-grown.ensures.unchanged c.widen-grown.ensures.widened c.widen-grown.ensures.seeds

pub returns-clause-all : goal.returns-clause-all
returns-clause-all g c =
    let v = c.widen-grown.new.self in
    subst (λ (xs : List Statement). OnOk c.widen-grown.result ((s : Statement) → Contains v.accesses.items s ↔ Contains xs s)) c.expanded.ensures c.widen-grown.ensures.accesses

pub returns-clause-slice : goal.returns-clause-slice
returns-clause-slice g c =
    let w = c.in_ok-widened.widened in
    let v = c.widen-grown.new.self in
    let all = subst (λ (xs : List Statement). OnOk c.widen-grown.result ((s : Statement) → Contains v.accesses.items s ↔ Contains xs s)) c.expanded.ensures c.widen-grown.ensures.accesses in
    subst (λ (k : Option Widened). KeepsSlice k (Some v)) c.take.ensures.value
    (keeps_widened c.args.f.now c.args.state.now w v c.widen-grown.result c.in_ok-widened.ensures.widened all c.widen-grown.ensures.unchanged c.take.result c.args.steps.now c.begun.new.steps c.in_ok-widened.ensures.same)

pub returns-clause-turns : goal.returns-clause-turns
returns-clause-turns g c =
    let f = c.args.f.now in
    let st = c.args.state.now in
    let w = c.in_ok-widened.widened in
    let v = c.widen-grown.new.self in
    let all = subst (λ (xs : List Statement). OnOk c.widen-grown.result ((s : Statement) → Contains v.accesses.items s ↔ Contains xs s)) c.expanded.ensures c.widen-grown.ensures.accesses in
    let turns = subst (λ (xs : List Statement). OnOk c.widen-grown.result (TakesTurns f (Contains xs) (Contains (seeds_of w.wide)) (Some w.accesses.items) c.begun.new.steps c.widen-grown.new.steps)) c.expanded.ensures c.widen-grown.ensures.turns in
    subst (λ (k : Option Widened). OnOk c.widen-grown.result (TakesTurns f (Contains st.expanded) (SeedNodes f st) (accesses_in k) c.args.steps.now c.widen-grown.new.steps)) c.take.ensures.value
    (turns_after f st w v c.widen-grown.result c.in_ok-widened.ensures.widened all c.widen-grown.ensures.unchanged c.take.result c.args.steps.now c.begun.new.steps c.widen-grown.new.steps c.in_ok-widened.ensures.same c.in_ok-widened.ensures.none c.in_ok-widened.ensures.turns turns)
