use Rattle.std.proofs.Common.{sym, subst, List, Contains, ℕ}
use Rattle.std.proofs.lemmas.List.{take_all}
use Rattle.worklist.proofs.Marking.{nothing_listed}
use Rattle.worklist.proofs.unmark.Goals as goal

pub returns-clause-set : goal.returns-clause-set
returns-clause-set c =
    nothing_listed c.loop-number.marks.items (λ n m.
    let left = c.loop-number.invariant.left n m in
    left.1 (subst (λ (xs : List ℕ). Contains xs n) (sym (take_all c.loop-number.number-index c.args.items.now c.loop-number-test.false)) (c.requires.marked n left.0)))
