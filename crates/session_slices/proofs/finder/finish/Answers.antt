use Rattle.std.proofs.Common.{◌≡◌, Contains, Result, Ok, Err, refl}
use Rattle.slicer_ids.specs.declared.ids.NoMemory.{NoMemory}
use Rattle.summary_memo.specs.Memo.{view_of}
use Rattle.thin_slice.specs.Walks.{nodes_of, seeds_of}
use Rattle.session_slices.specs.Needs.{SliceOf}
use Rattle.session_slices.proofs.Slicing.{statements_reworded, all_needed, needed_all}
use Rattle.session_slices.proofs.finder.finish.Goals as goal

never : (e : NoMemory) → ◌≡◌ {A = Result (Unit {0}) NoMemory} (Err e) (Ok tt) → ⊥
never e h = absurd (cc h)

pub returns-clause-statements : goal.returns-clause-statements
returns-clause-statements g c =
    statements_reworded c.args.f.now (Contains (nodes_of c.walk_on.new.walk)) (SliceOf c.args.f.now c.args.mode (Contains (seeds_of c.args.walk.now))) c.list_statements.new.found.items c.in_ok-walk_on.ensures.slice c.list_statements.ensures.statements

pub returns-clause-needed : goal.returns-clause-needed
returns-clause-needed g c = all_needed c.args.f.now c.args.mode (seeds_of c.args.walk.now) c.walk_on.new.pass (view_of c.walk_on.new.seat) c.in_ok-walk_on.ensures.fetched

pub returns-clause-had : goal.returns-clause-had
returns-clause-had g c = λ h. (refl, (c.walk_on.ensures.had (needed_all c.args.f.now c.args.mode (seeds_of c.args.walk.now) c.args.pass.now (view_of c.args.seat.now) h)).1)

pub returns-in_err-walk_on-clause-had : goal.returns-in_err-walk_on-clause-had
returns-in_err-walk_on-clause-had g c = λ h.
    absurd (never _ (c.in_err-walk_on.ensures.had (needed_all c.args.f.now c.args.mode (seeds_of c.args.walk.now) c.args.pass.now (view_of c.args.seat.now) h)).0)

pub returns-clause-rows : goal.returns-clause-rows
returns-clause-rows g c = λ h. c.walk_on.ensures.rows h

pub returns-in_err-walk_on-clause-rows : goal.returns-in_err-walk_on-clause-rows
returns-in_err-walk_on-clause-rows g c = λ h. c.in_err-walk_on.ensures.rows h
