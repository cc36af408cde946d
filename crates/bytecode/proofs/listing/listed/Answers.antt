use Rattle.std.proofs.Common.{◌≡◌, ◌⊎◌, ℕ, ◌<◌, List, All, length, inl, inr, sym, subst}
use Rattle.std.proofs.lemmas.Result.{err_from_is_err_and}
use Rattle.class_form.specs.Instructions.{FirstCodeFault}
use Rattle.class_form.specs.declared.pool.Pool.{Pool}
use Rattle.class_form.specs.declared.body.Instr.{Instr}
use Rattle.class_form.specs.declared.code_error.CodeError.{CodeError}
use Rattle.class_form.specs.declared.code_error.CodeError.TheVariants.{NoMemory}
use Rattle.bytecode.specs.Parts.{AreClamped}
use Rattle.bytecode.specs.Starts.{pcs, JumpsWell, MissesFirst}
use Rattle.bytecode.proofs.Listed.{are_instrs, jump_fault, pcs_within}
use Rattle.bytecode.proofs.listing.listed.Goals as goal

pub check_targets-requires : goal.check_targets-requires
check_targets-requires c = record {
  below = subst (All (λ i. i.pc < length c.args.code.now)) (sym c.as_slice.ensures.value) (pcs_within c.args.code.now c.args.pool.now 0 c.in_ok-instrs.instrs.items _ c.in_ok-instrs.ensures.found);
}

passed_on : (code : List ℕ) (pool : Pool) (xs ys : List Instr) (e : CodeError) → length code < 65536 → AreClamped code pool 0 xs (length code) → ys ≡ xs
    → (e ≡ NoMemory) ⊎ MissesFirst (pcs ys) ys e → (e ≡ NoMemory) ⊎ FirstCodeFault code pool e
passed_on code pool xs ys e fits h is (inl m) = inl m
passed_on code pool xs ys e fits h is (inr f) = inr (jump_fault code pool xs e fits h (subst (λ zs. MissesFirst (pcs zs) zs e) is f))

pub returns-in_err-check_targets-clause-refused : goal.returns-in_err-check_targets-clause-refused
returns-in_err-check_targets-clause-refused c =
    let p = err_from_is_err_and c.from_residual-in_err-check_targets.result c.from_residual-in_err-check_targets.ensures.1 in
    rw (p.1, p.2) (passed_on c.args.code.now c.args.pool.now c.in_ok-instrs.instrs.items _ _ c.requires c.in_ok-instrs.ensures.found c.as_slice.ensures.value c.in_err-check_targets.ensures.refused)

pub returns-clause-found : goal.returns-clause-found
returns-clause-found c =
    are_instrs c.args.code.now c.args.pool.now c.in_ok-instrs.instrs.items c.requires c.in_ok-instrs.ensures.found
    (subst (λ zs. All (JumpsWell (pcs zs)) zs) c.as_slice.ensures.value c.in_ok-check_targets.ensures.right)
