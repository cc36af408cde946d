use Rattle.std.proofs.Common.{◌≡◌, ◌⊎◌, Ok, Err, Result, inl, inr, ap}
use Rattle.slicer_ids.specs.declared.ids.MethodId.{MethodId}
use Rattle.class_form.specs.declared.pool.Pool.{Pool}
use Rattle.class_form.specs.declared.class_file.Member.{Member}
use Rattle.class_form.specs.declared.class_file.CodeBody.{CodeBody}
use Rattle.class_form.specs.declared.body.Body.{Body}
use Rattle.class_form.specs.declared.code_error.CodeError.{CodeError}
use Rattle.class_form.specs.declared.code_error.CodeError.TheVariants.{NoMemory}
use Rattle.body_form.specs.Bodies.{IsBodyOf, IsFirstFault}
use Rattle.body_form.proofs.OneBody.{one_body, one_fault, no_body}
use Rattle.method_body.proofs.reading.read_body.Goals as goal

pub returns-in-Ok-clause-only : goal.returns-in-Ok-clause-only
returns-in-Ok-clause-only c = λ b h.
    inl (ap (λ x. Ok x) (one_body c.args.pool.now c.args.number c.args.method.now c.args.code.now c.in-Ok.ensures.bytes c.requires.size.0 c.in-Ok.body b c.in-Ok.ensures.found h))

pub returns-in-Ok-clause-only_refused : goal.returns-in-Ok-clause-only_refused
returns-in-Ok-clause-only_refused c = λ fault f. absurd (no_body c.args.pool.now c.args.number c.args.method.now c.args.code.now c.in-Ok.body fault c.in-Ok.ensures.found f)

-- an error that isn't want of memory is the first fault
err_never : (p : Pool) (number : MethodId) (m : Member) (code : CodeBody) (e : CodeError) (b : Body) → (e ≡ NoMemory) ⊎ IsFirstFault p code e → IsBodyOf p number m code b
    → (let r : Result Body CodeError = Err e in r ≡ Err NoMemory)
err_never p number m code e b (inl n) h = ap (λ x. Err x) n
err_never p number m code e b (inr f) h = absurd (no_body p number m code b e h f)

err_only : (p : Pool) (code : CodeBody) (e fault : CodeError) → (e ≡ NoMemory) ⊎ IsFirstFault p code e → IsFirstFault p code fault
    → (let r : Result Body CodeError = Err e in r ≡ Err fault) ⊎ (let r : Result Body CodeError = Err e in r ≡ Err NoMemory)
err_only p code e fault (inl n) f = inr (ap (λ x. Err x) n)
err_only p code e fault (inr g) f = inl (ap (λ x. Err x) (one_fault p code e fault g f))

pub returns-in-Err-clause-only : goal.returns-in-Err-clause-only
returns-in-Err-clause-only c = λ b h. inr (err_never c.args.pool.now c.args.number c.args.method.now c.args.code.now c.in-Err.error b c.in-Err.ensures.refused h)

pub returns-in-Err-clause-only_refused : goal.returns-in-Err-clause-only_refused
returns-in-Err-clause-only_refused c = λ fault f. err_only c.args.pool.now c.args.code.now c.in-Err.error fault c.in-Err.ensures.refused f
