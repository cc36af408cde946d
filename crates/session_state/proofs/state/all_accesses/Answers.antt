use Rattle.std.proofs.Common.{List, sym, subst, ◌∙◌}
use Rattle.std.proofs.lemmas.List.{take_all}
use Rattle.slicer_ids.specs.declared.ids.Statement.{Statement}
use Rattle.slicer_ids.specs.Sets.{IsOrderedListOf}
use Rattle.slicer_ids.specs.Order.{StatementBefore}
use Rattle.dep_form.specs.declared.access.Access.{Access}
use Rattle.session_state.proofs.Gaining.{IsAccessIn, access_next, all_accesses_are}
use Rattle.session_state.proofs.state.all_accesses.Goals as goal

pub loop-access-preserved : goal.loop-access-preserved
loop-access-preserved c =
    access_next c.items-accesses.result.now c.loop-access.access-index c.access-item.result c.loop-access.all.items c.push.new.self.items c.loop-access-test.true (rw c.items-accesses.ensures c.args.f.now.accesses_rise) c.access-item.is c.in_ok-push.ensures.items
    c.loop-access.invariant

pub returns : goal.returns
returns c =
    all_accesses_are c.args.f.now _
    (subst (λ (xs : List (Statement × Access)). IsOrderedListOf StatementBefore c.loop-access.all.items (IsAccessIn xs)) (take_all _ _ c.loop-access-test.false ∙ c.items-accesses.ensures) c.loop-access.invariant)
