use Rattle.std.proofs.Common.{take, ◌≡◌, ◌++◌}
use Rattle.worklists.specs.Growth.{FromOne}
use Rattle.node_tables.specs.Segments.{AddsNodes}
use Rattle.node_tables.specs.Statements.{AtInstr}
use Rattle.node_tables.proofs.rows.add_instrs.Given as goal

abbrev pub invariant-loop-instr : goal.invariant-loop-instr
invariant-loop-instr l = AddsNodes l.initial.nodes.items l.nodes.items (FromOne (AtInstr l.scene.system.now l.scene.effects.now l.body) (take l.instr-index l.instrs))
