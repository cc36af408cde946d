use Rattle.std.proofs.Common.{List, Contains, sym, subst, ◌∙◌}
use Rattle.slicer_ids.specs.declared.ids.Mode.TheVariants.{Thin}
use Rattle.slicer_ids.specs.declared.ids.Statement.{Statement}
use Rattle.slicer_ids.specs.Order.{StatementBefore}
use Rattle.slicer_ids.specs.Sets.{IsOrderedListOf}
use Rattle.dep_form.specs.Slices.{Slice, Nothing, StatementsOf}
use Rattle.summary_memo.specs.Memo.{view_of}
use Rattle.session_walk.proofs.Going.{keeps_all, knows_all, rows_kept}
use Rattle.session_slices.specs.Needs.{SliceOf}
use Rattle.session_slices.proofs.Slicing.{needed_later, on_ok}
use Rattle.session_slices.proofs.explaining.explain_two.Goals as goal

pub explain-requires-clause-left : goal.explain-requires-clause-left
explain-requires-clause-left g c =
    subst (λ (ss : List Statement). IsOrderedListOf StatementBefore ss (StatementsOf c.args.f.now.inputs (Slice c.args.f.now.inputs Nothing (Contains c.args.a.now.object)))) (sym c.as_slice.ensures.value) c.in_ok-left.ensures.statements

pub explain-requires-clause-right : goal.explain-requires-clause-right
explain-requires-clause-right g c =
    subst (λ (ss : List Statement). IsOrderedListOf StatementBefore ss (StatementsOf c.args.f.now.inputs (Slice c.args.f.now.inputs Nothing (Contains c.args.b.now.object)))) (sym c.as_slice-2.ensures.value) c.in_ok-right.ensures.statements

pub returns-clause-left_needed : goal.returns-clause-left_needed
returns-clause-left_needed g c =
    on_ok c.explain.result (needed_later c.args.f.now Thin (SliceOf c.args.f.now Thin (Contains c.args.a.now.object)) c.slice_of_access.new.pass c.slice_of_access-2.new.pass (view_of c.slice_of_access.new.seat) (view_of c.slice_of_access-2.new.seat)
    c.in_ok-right.ensures.keeps c.in_ok-right.ensures.knows c.in_ok-left.ensures.needed)

pub returns-clause-right_needed : goal.returns-clause-right_needed
returns-clause-right_needed g c = on_ok c.explain.result c.in_ok-right.ensures.needed

pub returns-clause-had : goal.returns-clause-had
returns-clause-had g c = λ left right.
    c.in_ok-right.ensures.had
    (needed_later c.args.f.now Thin (SliceOf c.args.f.now Thin (Contains c.args.b.now.object)) c.args.pass.now c.slice_of_access.new.pass (view_of c.args.seat.now) (view_of c.slice_of_access.new.seat)
    c.in_ok-left.ensures.keeps c.in_ok-left.ensures.knows right)
    ∙ c.in_ok-left.ensures.had left

pub returns-in_err-right-clause-had : goal.returns-in_err-right-clause-had
returns-in_err-right-clause-had g c = λ left right.
    c.in_err-right.ensures.had
    (needed_later c.args.f.now Thin (SliceOf c.args.f.now Thin (Contains c.args.b.now.object)) c.args.pass.now c.slice_of_access.new.pass (view_of c.args.seat.now) (view_of c.slice_of_access.new.seat)
    c.in_ok-left.ensures.keeps c.in_ok-left.ensures.knows right)
    ∙ c.in_ok-left.ensures.had left

pub returns-clause-keeps : goal.returns-clause-keeps
returns-clause-keeps g c = keeps_all c.args.pass.now c.slice_of_access.new.pass c.slice_of_access-2.new.pass c.in_ok-left.ensures.keeps c.in_ok-right.ensures.keeps

pub returns-clause-knows : goal.returns-clause-knows
returns-clause-knows g c = knows_all (view_of c.args.seat.now) (view_of c.slice_of_access.new.seat) (view_of c.slice_of_access-2.new.seat) c.in_ok-left.ensures.knows c.in_ok-right.ensures.knows

pub returns-in_err-right-clause-keeps : goal.returns-in_err-right-clause-keeps
returns-in_err-right-clause-keeps g c = keeps_all c.args.pass.now c.slice_of_access.new.pass c.slice_of_access-2.new.pass c.in_ok-left.ensures.keeps c.in_err-right.ensures.keeps

pub returns-in_err-right-clause-knows : goal.returns-in_err-right-clause-knows
returns-in_err-right-clause-knows g c = knows_all (view_of c.args.seat.now) (view_of c.slice_of_access.new.seat) (view_of c.slice_of_access-2.new.seat) c.in_ok-left.ensures.knows c.in_err-right.ensures.knows

pub returns-clause-rows : goal.returns-clause-rows
returns-clause-rows g c = λ left right.
    c.in_ok-right.ensures.rows
    (rows_kept c.args.f.now Thin (SliceOf c.args.f.now Thin (Contains c.args.b.now.object)) (view_of c.args.seat.now) (view_of c.slice_of_access.new.seat) c.in_ok-left.ensures.knows right)
    ∙ c.in_ok-left.ensures.rows left

pub returns-in_err-right-clause-rows : goal.returns-in_err-right-clause-rows
returns-in_err-right-clause-rows g c = λ left right.
    c.in_err-right.ensures.rows
    (rows_kept c.args.f.now Thin (SliceOf c.args.f.now Thin (Contains c.args.b.now.object)) (view_of c.args.seat.now) (view_of c.slice_of_access.new.seat) c.in_ok-left.ensures.knows right)
    ∙ c.in_ok-left.ensures.rows left
