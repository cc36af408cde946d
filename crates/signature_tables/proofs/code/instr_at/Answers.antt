use Rattle.std.proofs.Common.{rules, ◌≡◌, length, ltb, true, false, sym}
use Rattle.std.specs.List.Sorted.{IsPartitionPoint}
use Rattle.std.proofs.lemmas.Bool.{ltb-true, ltb-false}
use Rattle.std.proofs.lemmas.List.Sorted.{IsPartitionPoint-from_clause, IsPartitionedBy-ltb}
use Rattle.class_form.specs.declared.body.Instr.{Instr}
use Rattle.signature_tables.proofs.OneInstr.{rising, at_instr, past_all, if_none}
use Rattle.signature_tables.proofs.code.instr_at.Goals as goal

pub returns-in-Some-clause-missed : goal.returns-in-Some-clause-missed
returns-in-Some-clause-missed c =
    let instrs = c.args.instrs.now in
    let k = c.partition_point-k.result in
    let parted : IsPartitionPoint (λ (p : Instr). ltb p.pc c.args.pc ≡ true) (λ (p : Instr). ltb p.pc c.args.pc ≡ false) instrs k =
    IsPartitionPoint-from_clause (λ (p : Instr). ltb p.pc c.args.pc) instrs k c.partition_point-k.ensures.partitioned (IsPartitionedBy-ltb (λ (p : Instr). p.pc) instrs c.args.pc (rising instrs c.requires)) (λ a r f' h. search rules) in
    if_none c.at_pc.result (at_instr instrs c.args.pc k c.in-Some.instr.now c.requires parted (ltb-true k (length instrs) (sym c.in-Some.ensures.lookup.0)) c.in-Some.ensures.lookup.1) c.at_pc.ensures.missed

pub returns-in-None-clause-missed : goal.returns-in-None-clause-missed
returns-in-None-clause-missed c =
    let instrs = c.args.instrs.now in
    let k = c.partition_point-k.result in
    let parted : IsPartitionPoint (λ (p : Instr). ltb p.pc c.args.pc ≡ true) (λ (p : Instr). ltb p.pc c.args.pc ≡ false) instrs k =
    IsPartitionPoint-from_clause (λ (p : Instr). ltb p.pc c.args.pc) instrs k c.partition_point-k.ensures.partitioned (IsPartitionedBy-ltb (λ (p : Instr). p.pc) instrs c.args.pc (rising instrs c.requires)) (λ a r f' h. search rules) in
    past_all instrs c.args.pc k parted (ltb-false k (length instrs) (sym c.in-None.ensures.lookup.0))
