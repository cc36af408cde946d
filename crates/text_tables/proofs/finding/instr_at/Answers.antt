use Rattle.std.proofs.Common.{rules, ◌≡◌, ltb, true, false, Some, ap, ◌∙◌}
use Rattle.std.specs.List.Sorted.{IsPartitionPoint}
use Rattle.std.proofs.lemmas.List.Sorted.{IsPartitionPoint-from_clause, IsPartitionedBy-ltb}
use Rattle.class_form.specs.declared.body.Instr.{Instr}
use Rattle.text_tables.proofs.Keyed.{rising, found}
use Rattle.text_tables.proofs.Options.{none_is, one_found}
use Rattle.text_tables.proofs.finding.instr_at.Goals as goal

pub returns-in-Some : goal.returns-in-Some
returns-in-Some c = λ i order among e.
    let instrs = c.args.instrs.now in
    let k = c.partition_point-k.result in
    let parted : IsPartitionPoint (λ (x : Instr). ltb x.pc c.args.pc ≡ true) (λ (x : Instr). ltb x.pc c.args.pc ≡ false) instrs k =
    IsPartitionPoint-from_clause (λ (x : Instr). ltb x.pc c.args.pc) instrs k c.partition_point-k.ensures.partitioned (IsPartitionedBy-ltb (λ (x : Instr). x.pc) instrs c.args.pc (rising (λ (x : Instr). x.pc) instrs order)) (λ a r f' h. search rules) in
    let there = found (λ (x : Instr). x.pc) instrs order c.args.pc k parted i among e in
    let same = one_found _ c.item_at.result c.in-Some.instr _ i c.in-Some.is c.item_at.ensures there in
    c.instr_of_pc.ensures (ap (λ (x : Instr). x.pc) same ∙ e) ∙ ap (λ (x : Instr). Some x) same

pub returns-in-None : goal.returns-in-None
returns-in-None c = λ i order among e.
    let instrs = c.args.instrs.now in
    let k = c.partition_point-k.result in
    let parted : IsPartitionPoint (λ (x : Instr). ltb x.pc c.args.pc ≡ true) (λ (x : Instr). ltb x.pc c.args.pc ≡ false) instrs k =
    IsPartitionPoint-from_clause (λ (x : Instr). ltb x.pc c.args.pc) instrs k c.partition_point-k.ensures.partitioned (IsPartitionedBy-ltb (λ (x : Instr). x.pc) instrs c.args.pc (rising (λ (x : Instr). x.pc) instrs order)) (λ a r f' h. search rules) in
    none_is _ c.item_at.result _ i c.in-None.is c.item_at.ensures (found (λ (x : Instr). x.pc) instrs order c.args.pc k parted i among e)
