use Rattle.std.proofs.Common.{◌≡◌, ◌↔◌, ℕ, ◌<◌, ◌≤◌, Bool, false, List, [], All, get_or, length, replicate, Contains, subst, ap, ◌∙◌, arith, length-set, take}
use Rattle.std.proofs.lemmas.List.{take_all, length-replicate}
use Rattle.class_form.specs.declared.body.Instr.{Instr}
use Rattle.bytecode.specs.Starts.{pcs, IsMarked}
use Rattle.bytecode.proofs.Marks.{none_marked, marked_more}
use Rattle.bytecode.proofs.starts.marks_of.Goals as goal

at_first : (marks : List Bool) (n : ℕ) → marks ≡ replicate n false → (pc : ℕ) → IsMarked marks pc ↔ Contains (pcs []) pc
at_first marks n is pc = (λ m. absurd (none_marked n pc (subst (λ ms. IsMarked ms pc) is m)), λ h. absurd (omega (arith, h.1)))

pub loop-instr-init : goal.loop-instr-init
loop-instr-init c = record {
  size = ap length c.in_ok-marks.ensures.none ∙ length-replicate c.args.size false;
  exact = at_first _ _ c.in_ok-marks.ensures.none;
}

within : (xs : List Instr) (n size : ℕ) (i : Instr) → All (λ i. i.pc < size) xs → n < length xs → i ≡ get_or xs n i → i.pc < size
within xs n size i all lt is = rw is (all n i lt)

pub loop-instr-preserved : goal.loop-instr-preserved
loop-instr-preserved c = record {
  size = simp length-set c.loop-instr.invariant.size;
  exact = marked_more c.args.instrs.now c.loop-instr.marks.items c.loop-instr.instr-index c.instr-item.result c.loop-instr-test.true c.instr-item.is
      (let lt = within c.args.instrs.now c.loop-instr.instr-index c.args.size c.instr-item.result c.requires.below c.loop-instr-test.true c.instr-item.is in omega (arith, c.loop-instr.invariant.size)) c.loop-instr.invariant.exact;
}

at_end : (xs : List Instr) (n : ℕ) (marks : List Bool) → length xs ≤ n → ((pc : ℕ) → IsMarked marks pc ↔ Contains (pcs (take n xs)) pc)
    → (pc : ℕ) → IsMarked marks pc ↔ Contains (pcs xs) pc
at_end xs n marks le e = subst (λ ys. (pc : ℕ) → IsMarked marks pc ↔ Contains (pcs ys) pc) (take_all n xs le) e

pub returns-clause-exact : goal.returns-clause-exact
returns-clause-exact c = at_end c.args.instrs.now c.loop-instr.instr-index c.loop-instr.marks.items c.loop-instr-test.false c.loop-instr.invariant.exact
