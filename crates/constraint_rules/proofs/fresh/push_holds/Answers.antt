use Rattle.std.proofs.Common.{arith}
use Rattle.worklists.proofs.Growing.{Grows-none, Grows-next}
use Rattle.constraint_rules.proofs.OfNumbers.{IsHold, holds_grown}
use Rattle.constraint_rules.proofs.fresh.push_holds.Goals as goal

pub loop-k-init : goal.loop-k-init
loop-k-init c = Grows-none c.args.rules.now.items _ (λ x f. absurd (omega (arith, f.1)))

pub loop-k-preserved : goal.loop-k-preserved
loop-k-preserved c = Grows-next (IsHold c.args.numbers.first) c.loop-k.k c.args.rules.now.items c.loop-k.rules.items c.push_hold.new.rules.items c.loop-k.invariant c.in_ok-push_hold.ensures

pub returns : goal.returns
returns c = holds_grown c.args.numbers.first c.args.numbers.count c.loop-k.k c.args.rules.now.items c.loop-k.rules.items (omega (arith, c.saturating_sub-k-end.ensures, c.loop-k.auto.k-end, c.loop-k-test.false)) c.loop-k.invariant
