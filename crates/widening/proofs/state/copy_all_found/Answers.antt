use Rattle.std.proofs.Common.{◌∙◌, List, [], sym, ap, subst}
use Rattle.std.proofs.lemmas.List.{take_all}
use Rattle.tabulate.specs.declared.found.Found.{Found}
use Rattle.widening.specs.States.{AreSameFound}
use Rattle.widening.proofs.CopyLaws.{same_none, same_more}
use Rattle.widening.proofs.state.copy_all_found.Goals as goal

pub loop-one-init : goal.loop-one-init
loop-one-init c = subst (λ (xs : List Found). AreSameFound [] xs) (sym c.new-copy.ensures.items) same_none

pub loop-one-preserved : goal.loop-one-preserved
loop-one-preserved c =
    let one = c.in_ok-one.ensures in
    let item = c.one-item.result in
    let is = c.one-item.is in
    same_more c.args.found.now c.loop-one.one-index item c.loop-one.copy.items c.push.new.self.items c.in_ok-one.one c.loop-one-test.true c.in_ok-push.ensures.items
    (one.0 ∙ ap (λ (t : Found). t.got.items) is) (one.1 ∙ ap (λ (t : Found). t.todo.items) is) (one.2 ∙ ap (λ (t : Found). t.waits.items) is) c.loop-one.invariant

pub returns : goal.returns
returns c = subst (λ (xs : List Found). AreSameFound xs c.loop-one.copy.items) (take_all c.loop-one.one-index c.args.found.now c.loop-one-test.false) c.loop-one.invariant
