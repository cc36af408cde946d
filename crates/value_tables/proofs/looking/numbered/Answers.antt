use Rattle.std.proofs.Common.{rules, ◌≡◌, ℕ, ltb, true, false, Contains, Some, refl, sym, ap, subst, ◌∙◌}
use Rattle.std.specs.List.Sorted.{IsPartitionPoint}
use Rattle.std.proofs.lemmas.List.Sorted.{IsPartitionPoint-from_clause, IsPartitionedBy-ltb}
use Rattle.std.proofs.lemmas.Option.{same_Some}
use Rattle.class_form.proofs.Indices.{there_at}
use Rattle.dep_form.specs.declared.rules.Var.{Var}
use Rattle.text_tables.proofs.Keyed.{rising, found}
use Rattle.value_tables.proofs.looking.numbered.Goals as goal

pub returns-in-Some : goal.returns-in-Some
returns-in-Some c =
    let pairs = c.args.pairs.now in
    let k = c.partition_point-k.result in
    let parted : IsPartitionPoint (λ (p : ℕ × Var). ltb p.0 c.args.pc ≡ true) (λ (p : ℕ × Var). ltb p.0 c.args.pc ≡ false) pairs k =
    IsPartitionPoint-from_clause (λ (p : ℕ × Var). ltb p.0 c.args.pc) pairs k c.partition_point-k.ensures.partitioned (IsPartitionedBy-ltb (λ (p : ℕ × Var). p.0) pairs c.args.pc (rising (λ (p : ℕ × Var). p.0) pairs c.requires)) (λ a r f' h. search rules) in
    let at = sym c.pair_at.ensures ∙ c.in-Some.is in
    λ x. (
      λ e.
          let h = (c.if_at.ensures x).0 e in
          let same : c.in-Some.pair ≡ (c.args.pc, x) = ap (λ (n : ℕ). (n, c.in-Some.pair.1)) h.0 ∙ ap (λ (v : Var). (c.args.pc, v)) h.1 in
          subst (Contains pairs) same (there_at pairs k c.in-Some.pair at),
      λ among.
          let there = found (λ (p : ℕ × Var). p.0) pairs c.requires c.args.pc k parted (c.args.pc, x) among refl in
          let same = same_Some c.in-Some.pair (c.args.pc, x) (sym at ∙ there) in
          (c.if_at.ensures x).1 (ap (λ (p : ℕ × Var). p.0) same, ap (λ (p : ℕ × Var). p.1) same),
    )

pub returns-in-None : goal.returns-in-None
returns-in-None c =
    let pairs = c.args.pairs.now in
    let k = c.partition_point-k.result in
    let parted : IsPartitionPoint (λ (p : ℕ × Var). ltb p.0 c.args.pc ≡ true) (λ (p : ℕ × Var). ltb p.0 c.args.pc ≡ false) pairs k =
    IsPartitionPoint-from_clause (λ (p : ℕ × Var). ltb p.0 c.args.pc) pairs k c.partition_point-k.ensures.partitioned (IsPartitionedBy-ltb (λ (p : ℕ × Var). p.0) pairs c.args.pc (rising (λ (p : ℕ × Var). p.0) pairs c.requires)) (λ a r f' h. search rules) in
    λ x. (λ e. absurd (cc e), λ among. absurd (cc (sym c.in-None.is ∙ c.pair_at.ensures ∙ found (λ (p : ℕ × Var). p.0) pairs c.requires c.args.pc k parted (c.args.pc, x) among refl)))
