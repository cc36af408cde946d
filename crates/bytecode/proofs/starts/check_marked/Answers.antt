use Rattle.std.proofs.Common.{ℕ, All, Contains, subst}
use Rattle.bytecode.specs.Starts.{pcs, IsMarked, JumpsWell}
use Rattle.bytecode.proofs.Marks.{all_more, all_at_end, jumps_well, misses_first}
use Rattle.bytecode.proofs.starts.check_marked.Goals as goal

pub returns-then-not-are_marked-clause-refused : goal.returns-then-not-are_marked-clause-refused
returns-then-not-are_marked-clause-refused c =
    misses_first c.args.marks.now c.args.instrs.now c.loop-instr.instr-index c.instr-item.result c.requires.exact c.loop-instr-test.true c.instr-item.is c.loop-instr.invariant
    (subst (λ ts. (place : ℕ) × Contains ts place × (IsMarked c.args.marks.now place → ⊥)) c.items.ensures c.if-not-are_marked.ensures)

pub loop-instr-preserved : goal.loop-instr-preserved
loop-instr-preserved c =
    all_more (JumpsWell (pcs c.args.instrs.now)) c.args.instrs.now c.loop-instr.instr-index c.instr-item.result c.loop-instr-test.true c.instr-item.is
    c.loop-instr.invariant (jumps_well c.args.marks.now c.args.instrs.now c.instr-item.result c.requires.exact
    (subst (All (IsMarked c.args.marks.now)) c.items.ensures c.if-not-are_marked.ensures))

pub returns-clause-right : goal.returns-clause-right
returns-clause-right c = all_at_end (JumpsWell (pcs c.args.instrs.now)) c.args.instrs.now c.loop-instr.instr-index c.loop-instr-test.false c.loop-instr.invariant
