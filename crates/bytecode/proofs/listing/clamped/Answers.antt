use Rattle.std.proofs.Common.{◌≡◌, ◌⊎◌, ℕ, ◌<◌, ◌+◌, List, length, inl, inr, sym, subst}
use Rattle.std.proofs.lemmas.Result.{err_from_is_err_and}
use Rattle.class_form.specs.Instructions.{FailsFirst, FirstCodeFault, checks}
use Rattle.class_form.specs.declared.pool.Pool.{Pool}
use Rattle.class_form.specs.declared.body.Instr.{Instr}
use Rattle.class_form.specs.declared.code_error.CodeError.{CodeError}
use Rattle.class_form.specs.declared.code_error.CodeError.TheVariants.{NoMemory}
use Rattle.bytecode.specs.Parts.{AreClamped}
use Rattle.bytecode.proofs.Listed.{clamped_push, instruction_fault}
use Rattle.bytecode.proofs.listing.clamped.Goals as goal

passed_on : (code : List ℕ) (pool : Pool) (xs : List Instr) (pc : ℕ) (e : CodeError) → pc < length code → AreClamped code pool 0 xs pc
    → (e ≡ NoMemory) ⊎ FailsFirst code pool pc e checks → (e ≡ NoMemory) ⊎ FirstCodeFault code pool e
passed_on code pool xs pc e lt h (inl m) = inl m
passed_on code pool xs pc e lt h (inr f) = inr (instruction_fault code pool xs pc e lt h f)

pub returns-in_err-instr-clause-refused : goal.returns-in_err-instr-clause-refused
returns-in_err-instr-clause-refused c =
    let p = err_from_is_err_and c.from_residual.result c.from_residual.ensures.1 in
    rw (p.1, p.2) (passed_on c.args.code.now c.args.pool.now c.loop-pc.instrs.items c.loop-pc.pc _ c.loop-pc-test.true c.loop-pc.invariant.clamped c.in_err-instr.ensures.refused)

pub loop-pc-preserved : goal.loop-pc-preserved
loop-pc-preserved c = record {
  within = c.in_ok-instr.ensures.within;
  clamped = subst (λ ys. AreClamped c.args.code.now c.args.pool.now 0 ys (c.loop-pc.pc + c.in_ok-instr.instr.size)) (sym c.in_ok-push.ensures.items)
      (clamped_push c.args.code.now c.args.pool.now 0 c.loop-pc.instrs.items c.loop-pc.pc c.in_ok-instr.instr c.loop-pc.invariant.clamped c.in_ok-instr.ensures.stands);
}
