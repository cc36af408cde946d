use Rattle.std.proofs.Common.{◌≡◌, ℕ, [], length, refl, subst, arith}
use Rattle.worklists.proofs.Growing.{FromBelow}
use Rattle.mod_ref.specs.Gains.{Gains}
use Rattle.mod_ref.proofs.Gaining.{gained, gains_next, gains_start}
use Rattle.input_tables.specs.Edges.{IsRaiseAt}
use Rattle.input_tables.proofs.raises.raises_in.Goals as goal

pub loop-q-init : goal.loop-q-init
loop-q-init c = gains_start (IsRaiseAt c.args.points.now) c.new-steps.result.items c.new-steps.ensures.items

pub loop-q-preserved : goal.loop-q-preserved
loop-q-preserved c = gains_next (IsRaiseAt c.args.points.now) c.loop-q.q [] c.loop-q.steps.items c.add_number.new.steps.items c.loop-q.invariant c.in_ok-add_number.ensures

pub returns : goal.returns
returns c =
    let xs = c.args.points.now in
    let end : c.loop-q.q ≡ length xs = omega (arith, c.loop-q-test.false, c.loop-q.auto.q-end) in
    λ x. gained [] c.loop-q.steps.items (FromBelow (IsRaiseAt xs) (length xs)) refl (subst (λ (n : ℕ). Gains [] c.loop-q.steps.items (FromBelow (IsRaiseAt xs) n)) end c.loop-q.invariant) x
