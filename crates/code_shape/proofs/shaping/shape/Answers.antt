use Rattle.std.proofs.Common.{◌≡◌, ◌⊎◌, ℕ, List, Ok, Err, Result, inl, inr, ap, refl}
use Rattle.class_form.specs.declared.body.Instr.{Instr}
use Rattle.class_form.specs.declared.body.Shape.{Shape}
use Rattle.class_form.specs.declared.class_file.CodeBody.{CodeBody}
use Rattle.class_form.specs.declared.code_error.CodeError.{CodeError}
use Rattle.class_form.specs.declared.code_error.CodeError.TheVariants.{NoMemory, Broken}
use Rattle.class_form.specs.Shapes.{Shaped, BreaksFirst}
use Rattle.class_form.proofs.ShapeLaws.{one_shape, one_fault, no_fault}
use Rattle.class_form.proofs.Flows.{shape_flows}
use Rattle.code_shape.proofs.shaping.shape.Goals as goal

pub returns-in-Ok-clause-only : goal.returns-in-Ok-clause-only
returns-in-Ok-clause-only c = λ s h. inl (ap (λ x. Ok x) (one_shape c.args.body.now c.args.instrs.now c.requires.instrs c.args.arguments.now _ s c.in-Ok.ensures.shaped h))

pub returns-in-Ok-clause-only_refused : goal.returns-in-Ok-clause-only_refused
returns-in-Ok-clause-only_refused c = λ rule pc f. absurd (no_fault c.args.body.now c.args.instrs.now c.args.arguments.now _ rule pc c.in-Ok.ensures.shaped f)

pub returns-in-Ok-clause-flow : goal.returns-in-Ok-clause-flow
returns-in-Ok-clause-flow c = shape_flows c.args.body.now c.args.instrs.now c.args.arguments.now _ c.in-Ok.ensures.shaped c.requires.arguments

-- an error that isn't want of memory is a fault, and the only one
abbrev Refused : CodeBody → List Instr → CodeError → Type 0
Refused body instrs e = (e ≡ NoMemory) ⊎ ((rule pc : ℕ) × (e ≡ Broken rule pc) × BreaksFirst body instrs rule pc)

err_only : (body : CodeBody) (instrs : List Instr) (e : CodeError) (rule pc : ℕ) → Refused body instrs e → BreaksFirst body instrs rule pc
    → (let r : Result Shape CodeError = Err e in r ≡ Err (Broken rule pc)) ⊎ (let r : Result Shape CodeError = Err e in r ≡ Err NoMemory)
err_only body instrs e rule pc (inl m) f = inr (ap (λ x. Err x) m)
err_only body instrs e rule pc (inr g) f =
    let same = one_fault body instrs g.0 g.1 rule pc g.3 f in
    inl (rw (g.2, same.0, same.1) refl)

err_never : (body : CodeBody) (instrs : List Instr) (arguments : List ℕ) (e : CodeError) (s : Shape) → Refused body instrs e → Shaped body instrs arguments s
    → (let r : Result Shape CodeError = Err e in r ≡ Err NoMemory)
err_never body instrs arguments e s (inl m) h = ap (λ x. Err x) m
err_never body instrs arguments e s (inr g) h = absurd (no_fault body instrs arguments s g.0 g.1 h g.3)

pub returns-in-Err-clause-only : goal.returns-in-Err-clause-only
returns-in-Err-clause-only c = λ s h. inr (err_never c.args.body.now c.args.instrs.now c.args.arguments.now _ s c.in-Err.ensures.refused h)

pub returns-in-Err-clause-only_refused : goal.returns-in-Err-clause-only_refused
returns-in-Err-clause-only_refused c = λ rule pc f. err_only c.args.body.now c.args.instrs.now _ rule pc c.in-Err.ensures.refused f
