use Rattle.std.proofs.Common.{◌≡◌}
use Rattle.method_facts.specs.Entering.{Enters}
use Rattle.mod_ref.proofs.Gaining.{gains_first, gains_more, gains_all}
use Rattle.method_facts.proofs.entries.add_all_entered.Goals as goal

pub loop-constraint-init : goal.loop-constraint-init
loop-constraint-init c = gains_first (Enters c.args.root) c.args.constraints.now c.args.methods.now.items

pub loop-constraint-preserved : goal.loop-constraint-preserved
loop-constraint-preserved c = gains_more (Enters c.args.root) c.args.constraints.now c.loop-constraint.constraint-index _ c.args.methods.now.items c.loop-constraint.methods.items c.add_entered.new.methods.items c.loop-constraint-test.true c.loop-constraint.invariant c.in_ok-add_entered.ensures

pub returns : goal.returns
returns c = gains_all (Enters c.args.root) c.args.constraints.now c.loop-constraint.constraint-index c.args.methods.now.items c.loop-constraint.methods.items c.loop-constraint-test.false c.loop-constraint.invariant
