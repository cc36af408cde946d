use Rattle.std.proofs.Common.{◌≡◌, ℕ, length, subst, arith}
use Rattle.input_lists.specs.Inputs.{AreInputsBelow}
use Rattle.input_lists.proofs.Listing.{inputs_more, no_inputs}
use Rattle.input_lists.proofs.lists.inputs_of.Goals as goal

pub loop-m-init : goal.loop-m-init
loop-m-init c = no_inputs c.args.scene.now c.new-inputs.result.items c.new-inputs.ensures.items

pub loop-m-preserved : goal.loop-m-preserved
loop-m-preserved c = inputs_more c.args.scene.now c.loop-m.m c.loop-m.inputs.items c.push.new.inputs.items c.in_ok-input.input c.in_ok-push.ensures c.loop-m.invariant c.in_ok-input.ensures

pub returns : goal.returns
returns c =
    let end : c.loop-m.m ≡ length c.args.scene.now.edges.rows.now = omega (arith, c.loop-m-test.false, c.loop-m.auto.m-end) in
    subst (λ (n : ℕ). AreInputsBelow c.args.scene.now n c.loop-m.inputs.items) end c.loop-m.invariant
