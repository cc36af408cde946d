use Rattle.std.proofs.Common.{◌≡◌, List, sym, subst}
use Rattle.std.specs.Ordering.{nat_cmp}
use Rattle.class_form.specs.declared.body.Instr.{Instr}
use Rattle.dep_form.specs.Orders.{RiseBy}
use Rattle.node_tables.specs.Rows.{HasNodes}
use Rattle.node_tables.specs.Statements.{AtInstr}
use Rattle.node_tables.proofs.NodeCounts.{instrs_all, instrs_counted, instrs_none}
use Rattle.node_tables.proofs.counts.count_instrs.Goals as goal

pub loop-instr-init : goal.loop-instr-init
loop-instr-init c = let x = c.args.scene.now in instrs_none x.system.now x.effects.now c.args.body.now c.args.instrs.now

pub loop-instr-preserved : goal.loop-instr-preserved
loop-instr-preserved c =
    let x = c.args.scene.now in
    let rise = subst (λ (xs : List Instr). RiseBy nat_cmp (λ (z : Instr). z.pc) xs) (sym c.requires.instrs) c.requires.order.instrs in
    instrs_counted x.system.now x.effects.now c.args.body.now c.args.instrs.now c.loop-instr.instr-index c.instr-item.result c.loop-instr.sum c.in_ok-count.count c.in_ok-sum.sum rise c.loop-instr-test.true c.in_ok-sum.ensures c.loop-instr.invariant
    (subst (λ (z : Instr). HasNodes (AtInstr x.system.now x.effects.now c.args.body.now z) c.in_ok-count.count) c.instr-item.is c.in_ok-count.ensures)

pub returns : goal.returns
returns c = let x = c.args.scene.now in instrs_all x.system.now x.effects.now c.args.body.now c.args.instrs.now c.loop-instr.instr-index c.loop-instr.sum c.loop-instr-test.false c.loop-instr.invariant
