-- The slots of a method's arguments, counted and listed.
use Rattle.std.proofs.Common.{◌≡◌, ◌≤◌, ◌+◌, ℕ, zero, suc, List, [], ◌∷◌, ◌++◌, map, get_or, sum, All, inl, inr, refl, sym, ap, subst, ◌∙◌, cond, Bool, true, false, arith}
use Rattle.std.proofs.lemmas.List.Sums.{sum-map, sum_by-append}
use Rattle.std.proofs.lemmas.List.Elements.{All-append, All-map}
use Rattle.std.proofs.lemmas.Option.{same_Some}
use Rattle.class_form.specs.Types.{IsMethodType, slots, width}
use Rattle.class_form.specs.Shapes.{AreArguments}
use Rattle.class_form.specs.declared.types.FieldType.{FieldType}
use Rattle.class_form.specs.declared.types.MethodType.{MethodType}
use Rattle.class_form.specs.declared.pool.Pool.{Pool}
use Rattle.class_form.specs.declared.class_file.Member.{Member}
use Rattle.class_form.specs.declared.class_file.CodeBody.{CodeBody}
use Rattle.class_form.proofs.DescriptorsRead.{width_some}
use Rattle.class_form.proofs.OneType.{one_method_type}
use Rattle.body_form.specs.Bodies.{HasType, IsReceiver, AreSlotsOf, HasRoom, FitsIn}

sum-append : (xs ys : List ℕ) → sum (xs ++ ys) ≡ sum xs + sum ys
sum-append xs ys = sum_by-append (λ (n : ℕ). n) xs ys

-- the slots of a receiver and of arguments together
pub slots_together : (receiver : List ℕ) (types : List FieldType) → sum (receiver ++ map width types) ≡ sum receiver + slots types
slots_together receiver types = sum-append receiver (map width types) ∙ ap (λ n. sum receiver + n) (sum-map width types)

pub one_type : (p : Pool) (m : Member) (t u : MethodType) → HasType p m t → HasType p m u → t ≡ u
one_type p m t u h k = one_method_type h.0 t u h.2 (subst (λ b. IsMethodType b u) (same_Some k.0 h.0 (sym k.1 ∙ h.1)) k.2)

pub one_receiver : (flags : ℕ) (a b : List ℕ) → IsReceiver flags a → IsReceiver flags b → a ≡ b
one_receiver flags a b (inl h) (inl k) = h.1 ∙ sym k.1
one_receiver flags a b (inl h) (inr k) = absurd (k.0 h.0)
one_receiver flags a b (inr h) (inl k) = absurd (h.0 k.0)
one_receiver flags a b (inr h) (inr k) = h.1 ∙ sym k.1

pub one_list_of_slots : (p : Pool) (m : Member) (a b : List ℕ) → AreSlotsOf p m a → AreSlotsOf p m b → a ≡ b
one_list_of_slots p m a b h k =
    let t = one_type p m h.0 k.0 h.1 k.1 in
    let r = one_receiver m.flags h.2 k.2 h.3 k.3 in
    h.4 ∙ ap (λ xs. xs ++ map width h.0.arguments) r ∙ ap (λ (u : MethodType). k.2 ++ map width u.arguments) t ∙ sym k.4

-- WIDTHS

abbrev IsWidth : ℕ → Type 0
IsWidth w = (1 ≤ w) × (w ≤ 2)

width_small : (t : FieldType) → IsWidth (width t)
width_small t = (width_some t, width_few _)
  where
    width_few : (b : Bool) → cond b 2 1 ≤ 2
    width_few true = omega arith
    width_few false = omega arith

receiver_small : (flags : ℕ) (r : List ℕ) → IsReceiver flags r → All IsWidth r
receiver_small flags r (inl h) = subst (All IsWidth) (sym h.1) (λ k d lt. absurd (omega (arith, lt)))
receiver_small flags r (inr h) = subst (All IsWidth) (sym h.1) one
  where
    one : All IsWidth (1 ∷ [])
    one zero d lt = (omega arith, omega arith)
    one (suc k) d lt = absurd (omega (arith, lt))

slots_small : (p : Pool) (m : Member) (slots : List ℕ) → AreSlotsOf p m slots → All IsWidth slots
slots_small p m slots h =
    subst (All IsWidth) (sym h.4)
    (All-append IsWidth h.2 (map width h.0.arguments) (receiver_small m.flags h.2 h.3)
    (All-map IsWidth width h.0.arguments (λ k d lt. width_small (get_or h.0.arguments k d))))

pub are_arguments : (p : Pool) (m : Member) (code : CodeBody) (slots : List ℕ) → AreSlotsOf p m slots → HasRoom p m code.max_locals → AreArguments code slots
are_arguments p m code slots h room =
    let e = one_list_of_slots p m room.0 slots room.1 h in
    record {
      widths = slots_small p m slots h;
      fit = subst (λ xs. sum xs ≤ 255) e room.2;
      within = subst (λ xs. sum xs ≤ code.max_locals) e room.3;
    }

-- ROOM

pub has_room : (p : Pool) (m : Member) (locals : ℕ) (t : MethodType) → HasType p m t → FitsIn (slots t.arguments) m.flags locals → HasRoom p m locals
has_room p m locals t h (receiver, is, few, within) =
    let e = slots_together receiver t.arguments in
    (receiver ++ map width t.arguments, (t, h, receiver, is, refl), subst (λ n. n ≤ 255) (sym e) few, subst (λ n. n ≤ locals) (sym e) within)

pub room_fits : (p : Pool) (m : Member) (locals : ℕ) (t : MethodType) → HasType p m t → HasRoom p m locals → FitsIn (slots t.arguments) m.flags locals
room_fits p m locals t h (all, (u, k, receiver, is, e), few, within) =
    let same = one_type p m u t k h in
    let count : sum all ≡ sum receiver + slots t.arguments = ap sum e ∙ slots_together receiver u.arguments ∙ ap (λ (v : MethodType). sum receiver + slots v.arguments) same in
    (receiver, is, subst (λ n. n ≤ 255) count few, subst (λ n. n ≤ locals) count within)
