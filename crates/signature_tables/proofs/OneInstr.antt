-- Instructions by their program counters.
use Rattle.std.proofs.Common.{◌≡◌, ◌<◌, ◌≤◌, ℕ, true, false, List, length, get_or, Contains, Option, Some, None, inl, inr, sym, ap, subst, ◌∙◌, arith, ltb}
use Rattle.std.specs.Prelude.{IfNone}
use Rattle.std.proofs.lemmas.Bool.{cases_lt, ltb-true, ltb-false}
use Rattle.std.proofs.lemmas.Option.{slice_get-get_or, same_Some}
use Rattle.std.specs.List.Sorted.{IsNonDecreasingBy, IsPartitionPoint}
use Rattle.class_form.specs.declared.body.Instr.{Instr}
use Rattle.signature_tables.specs.Statements.{AreInOrder, IsInstrPc}

-- an element within a list doesn't depend on the default
pub same : (instrs : List Instr) (k : ℕ) (x y : Instr) → k < length instrs → get_or instrs k x ≡ get_or instrs k y
same instrs k x y lt = same_Some (get_or instrs k x) (get_or instrs k y) (sym (slice_get-get_or instrs k x lt) ∙ slice_get-get_or instrs k y lt)

-- instrs at one program counter are one
pub one_instr : (instrs : List Instr) (p q : Instr) → AreInOrder instrs → Contains instrs p → Contains instrs q → p.pc ≡ q.pc → p ≡ q
one_instr instrs p q order c d e =
    elim (cases_lt c.0 d.0) [
      | inl lt ↦ absurd (omega (arith, subst (λ (x : Instr). x.pc < q.pc) c.2 (subst (λ (x : Instr). (get_or instrs c.0 p).pc < x.pc) (same instrs d.0 p q d.1 ∙ d.2) (order c.0 d.0 p lt d.1))))
      | inr le ↦ elim (cases_lt d.0 c.0) [
        | inl lt ↦ absurd (omega (arith, subst (λ (x : Instr). x.pc < p.pc) d.2 (subst (λ (x : Instr). (get_or instrs d.0 q).pc < x.pc) (same instrs c.0 q p c.1 ∙ c.2) (order d.0 c.0 q lt c.1))))
        | inr ge ↦
            let one : c.0 ≡ d.0 = omega arith in
            sym c.2 ∙ same instrs c.0 p q c.1 ∙ ap (λ (k : ℕ). get_or instrs k q) one ∙ d.2
      ]
    ]

-- the point before which all others are before the program counter is the only one that can be at it
pub at_instr : (instrs : List Instr) (pc k : ℕ) (x : Instr) → AreInOrder instrs → IsPartitionPoint (λ (p : Instr). ltb p.pc pc ≡ true) (λ (p : Instr). ltb p.pc pc ≡ false) instrs k
    → k < length instrs → x ≡ get_or instrs k x → (x.pc ≡ pc → ⊥) → IsInstrPc instrs pc → ⊥
at_instr instrs pc k x order parted lt is other (p, (j, within, there), e) = elim (cases_lt j k) [
  | inl before ↦ let less : p.pc < pc = subst (λ (y : Instr). y.pc < pc) there (ltb-true (get_or instrs j p).pc pc (parted.0 j p (omega arith) before)) in absurd (omega arith)
  | inr le ↦ elim (cases_lt k j) [
    | inl after ↦
        let less : (get_or instrs k p).pc < p.pc = subst (λ (y : Instr). (get_or instrs k p).pc < y.pc) there (order k j p after within) in
        let from : pc ≤ (get_or instrs k p).pc = ltb-false (get_or instrs k p).pc pc (parted.1 k p (omega arith) lt) in
        absurd (omega arith)
    | inr ge ↦
        let here : k ≡ j = omega arith in
        let one : x ≡ p = is ∙ same instrs k x p lt ∙ ap (λ (n : ℕ). get_or instrs n p) here ∙ there in
        other (ap (λ (y : Instr). y.pc) one ∙ e)
  ]
]

-- .. and there is none where all are before it
pub past_all : (instrs : List Instr) (pc k : ℕ) → IsPartitionPoint (λ (p : Instr). ltb p.pc pc ≡ true) (λ (p : Instr). ltb p.pc pc ≡ false) instrs k → length instrs ≤ k → IsInstrPc instrs pc → ⊥
past_all instrs pc k parted le (p, (j, within, there), e) =
    let less : p.pc < pc = subst (λ (y : Instr). y.pc < pc) there (ltb-true (get_or instrs j p).pc pc (parted.0 j p (omega arith) (omega arith))) in
    absurd (omega arith)

pub rising : (instrs : List Instr) → AreInOrder instrs → IsNonDecreasingBy (λ (p : Instr). p.pc) instrs
rising instrs order i j d le within = elim (cases_lt i j) [
  | inl lt ↦ omega (arith, order i j d lt within)
  | inr ge ↦ let e : i ≡ j = omega arith in omega (arith, ap (λ (n : ℕ). (get_or instrs n d).pc) e)
]

pub if_none : {A P Q : Type 0} (o : Option A) → (P → Q) → IfNone o P → IfNone o Q
if_none None f p = f p
if_none (Some x) f p = tt
