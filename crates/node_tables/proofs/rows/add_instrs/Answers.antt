use Rattle.std.proofs.Common.{◌≡◌, List, sym, subst}
use Rattle.std.specs.Ordering.{nat_cmp}
use Rattle.class_form.specs.declared.body.Instr.{Instr}
use Rattle.dep_form.specs.Orders.{RiseBy}
use Rattle.node_tables.specs.Segments.{AddsNodes}
use Rattle.node_tables.specs.Statements.{AtInstr}
use Rattle.node_tables.proofs.InstrLoops.{adds_first, adds_all, instrs_more}
use Rattle.node_tables.proofs.rows.add_instrs.Goals as goal

pub loop-instr-init : goal.loop-instr-init
loop-instr-init c = let x = c.args.scene.now in adds_first (AtInstr x.system.now x.effects.now c.args.body.now) c.args.instrs.now c.args.nodes.now.items

pub loop-instr-preserved : goal.loop-instr-preserved
loop-instr-preserved c =
    let x = c.args.scene.now in
    let rise = subst (λ (xs : List Instr). RiseBy nat_cmp (λ (z : Instr). z.pc) xs) (sym c.requires.instrs) c.requires.order.instrs in
    instrs_more x.system.now x.effects.now c.args.body.now c.args.instrs.now c.loop-instr.instr-index c.instr-item.result c.args.nodes.now.items c.loop-instr.nodes.items c.add_instr.new.nodes.items rise c.loop-instr-test.true c.loop-instr.invariant
    (subst (λ (z : Instr). AddsNodes c.loop-instr.nodes.items c.add_instr.new.nodes.items (AtInstr x.system.now x.effects.now c.args.body.now z)) c.instr-item.is c.in_ok-add_instr.ensures)

pub returns : goal.returns
returns c = let x = c.args.scene.now in adds_all (AtInstr x.system.now x.effects.now c.args.body.now) c.args.instrs.now c.loop-instr.instr-index c.args.nodes.now.items c.loop-instr.nodes.items c.loop-instr-test.false c.loop-instr.invariant
