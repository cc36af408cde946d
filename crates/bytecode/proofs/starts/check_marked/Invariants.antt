use Rattle.std.proofs.Common.{All, take}
use Rattle.bytecode.specs.Starts.{pcs, JumpsWell}
use Rattle.bytecode.proofs.starts.check_marked.Given as goal

abbrev pub invariant-loop-instr : goal.invariant-loop-instr
invariant-loop-instr l = All (JumpsWell (pcs l.instrs)) (take l.instr-index l.instrs)
