-- Code has one body or one first fault.
use Rattle.std.proofs.Common.{◌≡◌, ◌<◌, List, length, inl, inr, refl, sym, ap, subst, ◌∙◌}
use Rattle.byte_form.specs.Places.{IsBytes}
use Rattle.slicer_ids.specs.declared.ids.MethodId.{MethodId}
use Rattle.class_form.specs.Instructions.{Instrs}
use Rattle.class_form.specs.Shapes.{AreInstrsOf, Shaped, BreaksFirst}
use Rattle.class_form.specs.Reaches.{IsReachOf}
use Rattle.class_form.specs.declared.pool.Pool.{Pool}
use Rattle.class_form.specs.declared.class_file.Member.{Member}
use Rattle.class_form.specs.declared.class_file.CodeBody.{CodeBody}
use Rattle.class_form.specs.declared.body.Instr.{Instr}
use Rattle.class_form.specs.declared.body.Shape.{Shape}
use Rattle.class_form.specs.declared.body.Body.{Body}
use Rattle.class_form.specs.declared.code_error.CodeError.{CodeError}
use Rattle.class_form.specs.declared.code_error.CodeError.TheVariants.{Broken}
use Rattle.class_form.proofs.CodeLaws as codes
use Rattle.class_form.proofs.ShapeLaws as shapes
use Rattle.class_form.proofs.Follow.{instructions_follow}
use Rattle.body_form.specs.Bodies.{IsBodyOf, IsFirstFault}
use Rattle.body_form.proofs.Slots.{one_list_of_slots}
use Rattle.body_form.proofs.OneReach.{one_reach}

same_instrs : (p : Pool) (code : CodeBody) (a b : List Instr) → Instrs code.code p a → Instrs code.code p b → a ≡ b
same_instrs p code a b h k = codes.one_list code.code p 0 a b h k

made : (a b : Body) → a.method ≡ b.method → a.instrs ≡ b.instrs → a.shape ≡ b.shape → a.reach ≡ b.reach → a ≡ b
made a b m i s r = rw (← m, ← i, ← s, ← r) refl

module _ (p : Pool) (number : MethodId) (m : Member) (code : CodeBody) where
  pub one_body : IsBytes code.code → 0 < length code.code → (a b : Body) → IsBodyOf p number m code a → IsBodyOf p number m code b → a ≡ b
  one_body bytes some a b h k =
      let i = same_instrs p code a.instrs b.instrs h.instrs k.instrs in
      let are : AreInstrsOf (length code.code) b.instrs = instructions_follow code.code p b.instrs bytes some k.instrs in
      let slots = one_list_of_slots p m h.shape.0 k.shape.0 h.shape.1 k.shape.1 in
      let first : Shaped code b.instrs k.shape.0 a.shape = subst (λ xs. Shaped code xs k.shape.0 a.shape) i (subst (λ xs. Shaped code a.instrs xs a.shape) slots h.shape.2) in
      let s = shapes.one_shape code b.instrs are k.shape.0 a.shape b.shape first k.shape.2 in
      let r = one_reach b.shape a.reach b.reach (subst (λ (t : Shape). IsReachOf t a.reach) s h.reach) k.reach in
      made a b (h.method ∙ sym k.method) i s r

  pub no_body : (b : Body) (f : CodeError) → IsBodyOf p number m code b → IsFirstFault p code f → ⊥
  no_body b f h (inl g) = codes.list_or_fault code.code p b.instrs f h.instrs g
  no_body b f h (inr (instrs, is, rule, pc, breaks, e)) =
      let i = same_instrs p code instrs b.instrs is h.instrs in
      shapes.no_fault code b.instrs h.shape.0 b.shape rule pc h.shape.2 (subst (λ xs. BreaksFirst code xs rule pc) i breaks)

pub one_fault : (p : Pool) (code : CodeBody) (f g : CodeError) → IsFirstFault p code f → IsFirstFault p code g → f ≡ g
one_fault p code f g (inl h) (inl k) = codes.one_fault code.code p f g h k
one_fault p code f g (inl h) (inr k) = absurd (codes.list_or_fault code.code p k.0 f k.1 h)
one_fault p code f g (inr h) (inl k) = absurd (codes.list_or_fault code.code p h.0 g h.1 k)
one_fault p code f g (inr (xs, x, r, n, h, e)) (inr (ys, y, q, o, k, d)) =
    let i = same_instrs p code xs ys x y in
    let same = shapes.one_fault code ys r n q o (subst (λ zs. BreaksFirst code zs r n) i h) k in
    e ∙ ap (λ a. Broken a n) same.0 ∙ ap (λ a. Broken q a) same.1 ∙ sym d
