use Rattle.std.proofs.Common.{◌≡◌}
use Rattle.worklists.specs.Growth.{FromOne}
use Rattle.method_facts.specs.Entering.{Gives}
use Rattle.mod_ref.proofs.Gaining.{gains_first, gains_more, gains_all, gained}
use Rattle.method_facts.proofs.given.gather.Goals as goal

pub loop-constraint-init : goal.loop-constraint-init
loop-constraint-init c = gains_first (Gives c.args.root) c.args.constraints.now c.new-variables.result.items

pub loop-constraint-preserved : goal.loop-constraint-preserved
loop-constraint-preserved c = gains_more (Gives c.args.root) c.args.constraints.now c.loop-constraint.constraint-index _ c.new-variables.result.items c.loop-constraint.variables.items c.add_given.new.variables.items c.loop-constraint-test.true c.loop-constraint.invariant c.in_ok-add_given.ensures

pub returns : goal.returns
returns c = gained c.new-variables.result.items c.loop-constraint.variables.items (FromOne (Gives c.args.root) c.args.constraints.now) c.new-variables.ensures.items (gains_all (Gives c.args.root) c.args.constraints.now c.loop-constraint.constraint-index c.new-variables.result.items c.loop-constraint.variables.items c.loop-constraint-test.false c.loop-constraint.invariant)
