use Rattle.std.proofs.Common.{◌<◌, List, All, Contains, sym, subst}
use Rattle.slicer_ids.specs.declared.ids.NodeId.{NodeId}
use Rattle.slicer_ids.specs.declared.ids.Mode.TheVariants.{Thin}
use Rattle.slicer_ids.specs.declared.ids.Statement.{Statement}
use Rattle.slicer_ids.specs.Order.{StatementBefore}
use Rattle.slicer_ids.specs.Sets.{IsOrderedListOf}
use Rattle.dep_form.specs.Firsts.{node_count}
use Rattle.dep_form.specs.Slices.{StatementsOf}
use Rattle.summary_memo.specs.Memo.{view_of}
use Rattle.session_walk.specs.Knowledge.{HasRows}
use Rattle.session_slices.specs.Needs.{SliceOf, HasNeeded}
use Rattle.session_slices.proofs.Slicing.{object_nodes}
use Rattle.session_slices.proofs.explaining.slice_of_access.Goals as goal

pub find_from-requires-clause-seeds : goal.find_from-requires-clause-seeds
find_from-requires-clause-seeds g c =
    subst (λ (ns : List NodeId). All (λ (n : NodeId). n.0 < node_count c.args.f.now.inputs) ns) (sym c.items.ensures) (object_nodes c.args.f.now c.requires.access.0 c.args.a.now c.requires.access.1)

pub returns-clause-statements : goal.returns-clause-statements
returns-clause-statements g c =
    subst (λ (ns : List NodeId). IsOrderedListOf StatementBefore c.in_ok-statements.statements.items (StatementsOf c.args.f.now.inputs (SliceOf c.args.f.now Thin (Contains ns)))) c.items.ensures
    (subst (λ (ss : List Statement). IsOrderedListOf StatementBefore ss (StatementsOf c.args.f.now.inputs (SliceOf c.args.f.now Thin (Contains c.items.result.now)))) (sym c.in_ok-statements.ensures) c.in_ok-find_from.ensures.statements)

pub returns-clause-needed : goal.returns-clause-needed
returns-clause-needed g c =
    subst (λ (ns : List NodeId). HasNeeded c.args.f.now Thin (SliceOf c.args.f.now Thin (Contains ns)) c.find_from.new.pass (view_of c.find_from.new.seat)) c.items.ensures c.in_ok-find_from.ensures.needed

pub returns-clause-had : goal.returns-clause-had
returns-clause-had g c = λ h.
    (c.in_ok-find_from.ensures.had (subst (λ (ns : List NodeId). HasNeeded c.args.f.now Thin (SliceOf c.args.f.now Thin (Contains ns)) c.args.pass.now (view_of c.args.seat.now)) (sym c.items.ensures) h)).1

pub returns-in_err-find_from-clause-had : goal.returns-in_err-find_from-clause-had
returns-in_err-find_from-clause-had g c = λ h.
    (c.in_err-find_from.ensures.had (subst (λ (ns : List NodeId). HasNeeded c.args.f.now Thin (SliceOf c.args.f.now Thin (Contains ns)) c.args.pass.now (view_of c.args.seat.now)) (sym c.items.ensures) h)).1

pub returns-in_err-statements-clause-had : goal.returns-in_err-statements-clause-had
returns-in_err-statements-clause-had g c = λ h.
    (c.in_ok-find_from.ensures.had (subst (λ (ns : List NodeId). HasNeeded c.args.f.now Thin (SliceOf c.args.f.now Thin (Contains ns)) c.args.pass.now (view_of c.args.seat.now)) (sym c.items.ensures) h)).1

pub returns-clause-rows : goal.returns-clause-rows
returns-clause-rows g c = λ h.
    c.in_ok-find_from.ensures.rows (subst (λ (ns : List NodeId). HasRows c.args.f.now Thin (SliceOf c.args.f.now Thin (Contains ns)) (view_of c.args.seat.now)) (sym c.items.ensures) h)

pub returns-in_err-find_from-clause-rows : goal.returns-in_err-find_from-clause-rows
returns-in_err-find_from-clause-rows g c = λ h.
    c.in_err-find_from.ensures.rows (subst (λ (ns : List NodeId). HasRows c.args.f.now Thin (SliceOf c.args.f.now Thin (Contains ns)) (view_of c.args.seat.now)) (sym c.items.ensures) h)

pub returns-in_err-statements-clause-rows : goal.returns-in_err-statements-clause-rows
returns-in_err-statements-clause-rows g c = λ h.
    c.in_ok-find_from.ensures.rows (subst (λ (ns : List NodeId). HasRows c.args.f.now Thin (SliceOf c.args.f.now Thin (Contains ns)) (view_of c.args.seat.now)) (sym c.items.ensures) h)
