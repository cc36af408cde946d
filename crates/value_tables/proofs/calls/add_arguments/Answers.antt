use Rattle.mod_ref.proofs.Gaining.{gains_first, gains_more, gains_all}
use Rattle.value_tables.specs.Methods.{VarHas}
use Rattle.value_tables.proofs.calls.add_arguments.Goals as goal

pub loop-var-init : goal.loop-var-init
loop-var-init c = gains_first (VarHas c.args.x.now.system.now) c.args.vars.now c.args.sites.now.items

pub loop-var-preserved : goal.loop-var-preserved
loop-var-preserved c =
    gains_more (VarHas c.args.x.now.system.now) c.args.vars.now c.loop-var.var-index _ c.args.sites.now.items c.loop-var.sites.items c.add_var.new.sites.items c.loop-var-test.true c.loop-var.invariant
    (c.in_ok-add_var.ensures c.args.x.now.system.now c.requires.method.solved (c.requires.vars c.loop-var.var-index _ c.loop-var-test.true))

pub returns : goal.returns
returns c = gains_all (VarHas c.args.x.now.system.now) c.args.vars.now c.loop-var.var-index c.args.sites.now.items c.loop-var.sites.items c.loop-var-test.false c.loop-var.invariant
