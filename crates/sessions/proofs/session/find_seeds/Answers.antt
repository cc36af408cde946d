use Rattle.std.proofs.Common.{◌≡◌, List, Contains, AllPairs, Ok, sym, subst}
use Rattle.std.specs.Prelude.{OnOk}
use Rattle.slicer_ids.specs.declared.ids.Statement.{Statement}
use Rattle.slicer_ids.specs.Order.{StatementBefore}
use Rattle.slicer_ids.specs.Sets.{IsOrderedListOf}
use Rattle.dep_form.specs.Slices.{NodesOf, StatementsOf}
use Rattle.summary_memo.specs.Memo.{view_of}
use Rattle.session_walk.specs.Knowledge.{HasRows}
use Rattle.session_slices.specs.Needs.{SliceOf, HasNeeded}
use Rattle.session_slices.specs.Rooms.{statements_in}
use Rattle.sessions.proofs.session.find_seeds.Goals as goal

pub find-requires-clause-facts : goal.find-requires-clause-facts
find-requires-clause-facts g c = c.args.shared.now.of_facts

pub find-requires-clause-seeds : goal.find-requires-clause-seeds
find-requires-clause-seeds g c = subst (AllPairs StatementBefore) (sym c.seeds.ensures) c.requires.order

pub returns-clause-statements : goal.returns-clause-statements
returns-clause-statements g c =
    let f = c.args.shared.now.facts in
    subst (λ (ss : List Statement). OnOk c.find.result (IsOrderedListOf StatementBefore (statements_in c.find.new.self) (StatementsOf f.inputs (SliceOf f c.args.mode (NodesOf f.inputs (Contains ss)))))) c.seeds.ensures c.find.ensures.statements

pub returns-clause-needed : goal.returns-clause-needed
returns-clause-needed g c =
    let f = c.args.shared.now.facts in
    subst (λ (ss : List Statement). OnOk c.find.result (HasNeeded f c.args.mode (SliceOf f c.args.mode (NodesOf f.inputs (Contains ss))) c.find.new.pass (view_of c.find.new.seat))) c.seeds.ensures c.find.ensures.needed

pub returns-clause-had : goal.returns-clause-had
returns-clause-had g c =
    let f = c.args.shared.now.facts in
    subst (λ (ss : List Statement). HasNeeded f c.args.mode (SliceOf f c.args.mode (NodesOf f.inputs (Contains ss))) c.args.pass.now (view_of c.args.seat.now) → (c.find.result ≡ Ok tt) × (c.find.new.steps ≡ c.args.steps.now)) c.seeds.ensures c.find.ensures.had

pub returns-clause-rows : goal.returns-clause-rows
returns-clause-rows g c =
    let f = c.args.shared.now.facts in
    subst (λ (ss : List Statement). HasRows f c.args.mode (SliceOf f c.args.mode (NodesOf f.inputs (Contains ss))) (view_of c.args.seat.now) → c.find.new.steps ≡ c.args.steps.now) c.seeds.ensures c.find.ensures.rows
