use Rattle.std.proofs.Common.{take, ◌≡◌}
use Rattle.worklists.specs.Growth.{FromOne}
use Rattle.node_tables.specs.Rows.{HasNodes}
use Rattle.node_tables.specs.Statements.{AtInstr}
use Rattle.node_tables.proofs.counts.count_instrs.Given as goal

abbrev pub invariant-loop-instr : goal.invariant-loop-instr
invariant-loop-instr l = HasNodes (FromOne (AtInstr l.scene.system.now l.scene.effects.now l.body) (take l.instr-index l.instrs)) l.sum
