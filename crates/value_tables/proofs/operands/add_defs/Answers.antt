use Rattle.mod_ref.proofs.Gaining.{gains_first, gains_more, gains_all}
use Rattle.value_tables.specs.Values.{DefHas}
use Rattle.value_tables.proofs.operands.add_defs.Goals as goal

pub loop-def-init : goal.loop-def-init
loop-def-init c = gains_first (DefHas c.args.x.now) c.args.defs.now c.args.sites.now.items

pub loop-def-preserved : goal.loop-def-preserved
loop-def-preserved c = gains_more (DefHas c.args.x.now) c.args.defs.now c.loop-def.def-index _ c.args.sites.now.items c.loop-def.sites.items c.add_def.new.sites.items c.loop-def-test.true c.loop-def.invariant c.in_ok-add_def.ensures

pub returns : goal.returns
returns c = gains_all (DefHas c.args.x.now) c.args.defs.now c.loop-def.def-index c.args.sites.now.items c.loop-def.sites.items c.loop-def-test.false c.loop-def.invariant
