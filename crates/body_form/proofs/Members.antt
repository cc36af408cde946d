-- The code of each method of a class file that keeps the rules can be read.
use Rattle.std.proofs.Common.{◌≡◌, ◌≤◌, ◌+◌, ℕ, List, [], ◌∷◌, sum, inl, inr, refl, sym, ap, subst, ◌∙◌, arith}
use Rattle.std.proofs.lemmas.List.Elements.{All-contains}
use Rattle.class_form.specs.Types.{slots}
use Rattle.class_form.specs.Classes.{HasCode}
use Rattle.class_form.specs.ClassRules.{TakesSlots, HasLocals, IsContent, IsMethodAttribute, IsMethodMember}
use Rattle.class_form.specs.declared.types.MethodType.{MethodType}
use Rattle.class_form.specs.declared.pool.Pool.{Pool}
use Rattle.class_form.specs.declared.class_file.Member.{Member}
use Rattle.class_form.specs.declared.class_file.Content.{Content}
use Rattle.class_form.specs.declared.class_file.Content.TheVariants.{Code}
use Rattle.class_form.specs.declared.class_file.CodeBody.{CodeBody}
use Rattle.body_form.specs.Bodies.{HasType, IsReceiver, HasRoom, IsReadable}
use Rattle.body_form.proofs.Slots.{one_type, one_receiver, has_room}

-- a receiver, and the slots that it takes with those of the arguments
with_receiver : (p : Pool) (m : Member) (n : ℕ) → (h : TakesSlots p m.flags m.descriptor n) → (receiver : List ℕ) × IsReceiver m.flags receiver × (n ≡ sum receiver + slots h.1.arguments)
with_receiver p m n (text, t, named, is, inl k) = ([], inl (k.0, refl), omega (arith, k.1))
with_receiver p m n (text, t, named, is, inr k) = (1 ∷ [], inr (k.0, refl), omega (arith, k.1))

type_taken : (p : Pool) (m : Member) (n : ℕ) → (h : TakesSlots p m.flags m.descriptor n) → HasType p m h.1
type_taken p m n h = (h.0, h.2, h.3)

one_count : (p : Pool) (m : Member) (a b : ℕ) → TakesSlots p m.flags m.descriptor a → TakesSlots p m.flags m.descriptor b → a ≡ b
one_count p m a b h k =
    let x = with_receiver p m a h in
    let y = with_receiver p m b k in
    let r = one_receiver m.flags x.0 y.0 x.1 y.1 in
    let t = one_type p m h.1 k.1 (type_taken p m a h) (type_taken p m b k) in
    x.2 ∙ ap (λ (xs : List ℕ). sum xs + slots h.1.arguments) r ∙ ap (λ (u : MethodType). sum y.0 + slots u.arguments) t ∙ sym y.2

room_of : (p : Pool) (m : Member) (locals n k : ℕ) → TakesSlots p m.flags m.descriptor n → n ≤ locals → TakesSlots p m.flags m.descriptor k → k ≤ 255 → HasRoom p m locals
room_of p m locals n k h within g few =
    let x = with_receiver p m n h in
    let same = one_count p m n k h g in
    has_room p m locals h.1 (type_taken p m n h) (x.0, x.1, subst (λ i. i ≤ 255) x.2 (subst (λ i. i ≤ 255) (sym same) few), subst (λ i. i ≤ locals) x.2 within)

pub methods_are_readable : (p : Pool) (class_flags : ℕ) (m : Member) (code : CodeBody) → IsMethodMember p class_flags m → HasCode m code → IsReadable p m code
methods_are_readable p class_flags m code h (a, c, e) =
    let attribute : IsMethodAttribute p a = All-contains (IsMethodAttribute p) m.attributes a h.attributes c in
    let content : IsContent p a.name (Code code) = subst (IsContent p a.name) e attribute.content in
    let here : HasLocals h.locals.0 a = All-contains (HasLocals h.locals.0) m.attributes a h.locals.2 c in
    let within : h.locals.0 ≤ code.max_locals = subst (λ (x : Content). HasLocals h.locals.0 (record { name = a.name; content = x })) e here in
    record { size = content.1.code; room = room_of p m code.max_locals h.locals.0 h.slots.0 h.locals.1 within h.slots.1 h.slots.2 }
