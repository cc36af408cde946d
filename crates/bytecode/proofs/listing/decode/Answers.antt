use Rattle.std.proofs.Common.{◌≡◌, ◌⊎◌, ℕ, List, Ok, Err, Result, inl, inr, ap, ◌∙◌}
use Rattle.class_form.specs.Instructions.{Instrs, FirstCodeFault}
use Rattle.class_form.specs.declared.pool.Pool.{Pool}
use Rattle.class_form.specs.declared.body.Instr.{Instr}
use Rattle.class_form.specs.declared.code_error.CodeError.{CodeError}
use Rattle.class_form.specs.declared.code_error.CodeError.TheVariants.{NoMemory}
use Rattle.class_form.proofs.CodeLaws.{one_list, one_fault, list_or_fault}
use Rattle.bytecode.proofs.listing.decode.Goals as goal

pub returns-in-Ok-clause-only : goal.returns-in-Ok-clause-only
returns-in-Ok-clause-only c = λ list h. inl (ap (λ l. Ok l) (c.from_vec.ensures ∙ one_list c.args.code.now c.args.pool.now 0 _ list c.in-Ok.ensures.found h))

pub returns-in-Ok-clause-only_refused : goal.returns-in-Ok-clause-only_refused
returns-in-Ok-clause-only_refused c = λ fault f. absurd (list_or_fault c.args.code.now c.args.pool.now _ fault c.in-Ok.ensures.found f)

-- an error that isn't want of memory is the code's first fault
err_only : {A : Type 0} (code : List ℕ) (pool : Pool) (e fault : CodeError) → (e ≡ NoMemory) ⊎ FirstCodeFault code pool e → FirstCodeFault code pool fault
    → (let r : Result A CodeError = Err e in r ≡ Err fault) ⊎ (let r : Result A CodeError = Err e in r ≡ Err NoMemory)
err_only code pool e fault (inl m) f = inr (ap (λ x. Err x) m)
err_only code pool e fault (inr g) f = inl (ap (λ x. Err x) (one_fault code pool e fault g f))

err_never : {A : Type 0} (code : List ℕ) (pool : Pool) (e : CodeError) (list : List Instr) (r : Result A CodeError) → (e ≡ NoMemory) ⊎ FirstCodeFault code pool e → Instrs code pool list
    → (let r : Result A CodeError = Err e in r ≡ Err NoMemory)
err_never code pool e list r (inl m) h = ap (λ x. Err x) m
err_never code pool e list r (inr g) h = absurd (list_or_fault code pool list e h g)

pub returns-in-Err-clause-only : goal.returns-in-Err-clause-only
returns-in-Err-clause-only c = λ list h. inr (err_never c.args.code.now c.args.pool.now _ list (Ok list) c.in-Err.ensures.refused h)

pub returns-in-Err-clause-only_refused : goal.returns-in-Err-clause-only_refused
returns-in-Err-clause-only_refused c = λ fault f. err_only c.args.code.now c.args.pool.now _ fault c.in-Err.ensures.refused f
