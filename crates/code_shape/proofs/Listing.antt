-- Lists that are made in the order of a key.
use Rattle.std.proofs.Common.{◌≡◌, ◌<◌, ◌≤◌, ◌+◌, ◌-◌, ℕ, List, [], ◌∷◌, ◌++◌, take, length, get_or, All, AllPairs, Contains, Some, ◌⊎◌, inl, inr, refl, sym, ap, subst, ◌∙◌, arith}
use Rattle.std.specs.Prelude.{slice_get, max}
use Rattle.std.proofs.Math.Nat.{le-max_right}
use Rattle.std.proofs.lemmas.Option.{slice_get_within, slice_get-get_or, same_Some}
use Rattle.std.proofs.lemmas.List.Sums.{sum_by_more, sum_by-take-le}
use Rattle.std.proofs.lemmas.List.Elements.{All-push, All-weaker, All-nil, Contains-get_or, Contains-push, Contains-push_cases}
use Rattle.std.proofs.lemmas.List.Quantifiers.{all_pairs_push}
use Rattle.slicer_ids.specs.Sets.{IsOrderedListOf}
use Rattle.class_form.specs.Table.{opcode_of, Moves}
use Rattle.class_form.specs.declared.body.Instr.{Instr}
use Rattle.class_form.specs.declared.body.Operand.{Operand}
use Rattle.class_form.specs.declared.body.SlotUse.{SlotUse}
use Rattle.class_form.specs.declared.class_file.CodeBody.{CodeBody}
use Rattle.class_form.specs.Shapes.{HasLocal, IsAmong, MakesSlot, MovesSlot, Uses, first_taken, first_operand, operand_slots, local_slots, moves}
use Rattle.worklists.specs.Growth.{Grows}
use Rattle.worklists.proofs.Growing.{FromBelow, Grows-same, Grows-next, Grows-then, Grows-none}
use Rattle.code_shape.specs.Listed.{AreBelow, slot_itself, slot_of, goal_of, UsesFrom, UsesAt, MovesAt}

pub below_none : {A : Type 0} (key : A → ℕ) (bound : ℕ) (xs : List A) → xs ≡ [] → AreBelow key bound xs
below_none {A} key bound xs e = subst (AreBelow key bound) (sym e) (record { order = λ i j d lt within. absurd (omega arith); below = All-nil (λ a. key a < bound) })

pub below_wider : {A : Type 0} (key : A → ℕ) (a b : ℕ) (xs : List A) → a ≤ b → AreBelow key a xs → AreBelow key b xs
below_wider key a b xs le h = record { order = h.order; below = All-weaker (λ x. key x < a) (λ x. key x < b) (λ x lt. omega arith) xs h.below }

pub below_push : {A : Type 0} (key : A → ℕ) (bound next : ℕ) (xs : List A) (x : A) → key x ≡ bound → next ≡ bound + 1 → AreBelow key bound xs → AreBelow key next (xs ++ x ∷ [])
below_push {A} key bound next xs x e n h = record {
  order = all_pairs_push (λ a b. key a < key b) xs x h.order (λ k d lt. omega (arith, h.below k d lt, e));
  below = All-push (λ a. key a < next) xs x (All-weaker (λ a. key a < bound) (λ a. key a < next) (λ a lt. omega arith) xs h.below) (omega arith);
}

pub grows_push : {A : Type 0} (xs : List A) (x : A) → Grows xs (xs ++ x ∷ []) (λ y. y ≡ x)
grows_push xs x = record {
  front = (x ∷ [], refl);
  all = λ y e. subst (Contains (xs ++ x ∷ [])) (sym e) (Contains-push xs x);
  only = λ y c. elim (Contains-push_cases xs x y c) [ inl o ↦ inl o | inr e ↦ inr (sym e) ];
}

pub ordered_list : {A : Type 0} (key : A → ℕ) (bound : ℕ) (xs : List A) (P : A → Type 0) → AreBelow key bound xs → Grows [] xs P → IsOrderedListOf (λ a b. key a < key b) xs P
ordered_list key bound xs P h g = record {
  each = λ i d lt. elim (g.only (get_or xs i d) (Contains-get_or xs i d lt)) [ inl none ↦ absurd (omega (arith, none.1)) | inr p ↦ p ];
  order = h.order;
  whole = λ x p. g.all x p;
}

pub slots_among : (first count : ℕ) (old new : List ℕ) → Grows old new (FromBelow (λ i x. x ≡ first + i) count) → Grows old new (IsAmong first count)
slots_among first count old new g = Grows-same old new (FromBelow (λ i x. x ≡ first + i) count) (IsAmong first count)
    (λ x f. (omega (arith, f.2), omega (arith, f.1, f.2))) (λ x h. (x - first, omega (arith, h.0, h.1), omega (arith, h.0))) g

pub local_fits : (body : CodeBody) (i : Instr) → HasLocal body i → 0 < (opcode_of i.op).makes → i.index + (opcode_of i.op).makes ≤ body.max_locals
local_fits body i has some =
    let le : (opcode_of i.op).makes ≤ local_slots i = le-max_right _ _ in
    omega (arith, has (omega arith))

pub no_slots : (first count : ℕ) (xs : List ℕ) → count ≡ 0 → Grows xs xs (IsAmong first count)
no_slots first count xs e = Grows-none xs (IsAmong first count) (λ x h. absurd (omega (arith, h.0, h.1)))

pub all_makes : (body : CodeBody) (i : Instr) (depth : ℕ) (mid new : List ℕ) → Grows [] mid (IsAmong i.index (opcode_of i.op).makes) → Grows mid new (IsAmong (first_taken body i depth) i.leaves) → Grows [] new (MakesSlot body i depth)
all_makes body i depth mid new g h = Grows-then [] mid new (IsAmong i.index (opcode_of i.op).makes) (IsAmong (first_taken body i depth) i.leaves) (MakesSlot body i depth)
    (λ x m. elim m [ inl a ↦ inr a | inr b ↦ inl b ]) (λ x m. elim m [ inl a ↦ inr a | inr b ↦ inl b ]) g h

pub one_move : (leaves : List ℕ) (first k source : ℕ) (old new : List (ℕ × ℕ)) → slice_get leaves k ≡ Some source → Grows old new (λ m. m ≡ (first + source, first + k)) → Grows old new (MovesAt leaves first k)
one_move leaves first k source old new at g = Grows-same old new (λ m. m ≡ (first + source, first + k)) (MovesAt leaves first k)
    (λ m e. (source, at, ap (λ (x : ℕ × ℕ). x.0) e, ap (λ (x : ℕ × ℕ). x.1) e))
    (λ m h. made m (first + source) (first + k) (h.2 ∙ ap (λ n. first + n) (same_Some h.0 source (sym h.1 ∙ at))) h.3) g
  where
    made : (x : ℕ × ℕ) (a b : ℕ) → x.0 ≡ a → x.1 ≡ b → x ≡ (a, b)
    made x a b e f = ap (λ (n : ℕ). (n, x.1)) e ∙ ap (λ (n : ℕ). (a, n)) f

pub all_moves : (body : CodeBody) (i : Instr) (depth : ℕ) (old new : List (ℕ × ℕ)) → Grows old new (FromBelow (MovesAt (moves i).leaves (first_taken body i depth)) (length (moves i).leaves)) → Grows old new (MovesSlot body i depth)
all_moves body i depth old new g = Grows-same old new (FromBelow (MovesAt (moves i).leaves (first_taken body i depth)) (length (moves i).leaves)) (MovesSlot body i depth)
    (λ m f. (f.0, f.2.0, f.2.1, f.2.2, f.2.3)) (λ m h. (h.0, slice_get_within (moves i).leaves h.0 h.1 h.2, (h.1, h.2, h.3, h.4))) g

pub uses_from : (number first : ℕ) (o : Operand) (old new : List SlotUse) → Grows old new (FromBelow (λ i u. u ≡ record { slot = first + i; operand = number; base = o.base }) o.slots) → Grows old new (UsesFrom number first o)
uses_from number first o old new g = Grows-same old new (FromBelow (λ i u. u ≡ record { slot = first + i; operand = number; base = o.base }) o.slots) (UsesFrom number first o) to from g
  where
    to : (u : SlotUse) → FromBelow (λ i v. v ≡ record { slot = first + i; operand = number; base = o.base }) o.slots u → UsesFrom number first o u
    to u f = let e : u.slot ≡ first + f.0 = ap (λ (v : SlotUse). v.slot) f.2 in (ap (λ (v : SlotUse). v.operand) f.2, ap (λ (v : SlotUse). v.base) f.2, (omega arith, omega (arith, f.1)))

    from : (u : SlotUse) → UsesFrom number first o u → FromBelow (λ i v. v ≡ record { slot = first + i; operand = number; base = o.base }) o.slots u
    from u (n, b, (lo, hi)) = (u.slot - first, omega arith, rw (n, b) (ap (λ (s : ℕ). record { slot = s; operand = number; base = o.base }) (omega arith)))

pub one_operand : (operands : List Operand) (start number first : ℕ) (o : Operand) (old new : List SlotUse) → slice_get operands number ≡ Some o → first ≡ start + operand_slots (take number operands)
    → Grows old new (UsesFrom number first o) → Grows old new (UsesAt operands start number)
one_operand operands start number first o old new at e g = Grows-same old new (UsesFrom number first o) (UsesAt operands start number)
    (λ u h. (o, at, subst (λ (n : ℕ). UsesFrom number n o u) e h))
    (λ u h. subst (λ (n : ℕ). UsesFrom number n o u) (sym e) (subst (λ (p : Operand). UsesFrom number (start + operand_slots (take number operands)) p u) (same_Some h.0 o (sym h.1 ∙ at)) h.2)) g

pub all_uses : (body : CodeBody) (i : Instr) (depth : ℕ) (old new : List SlotUse) → Grows old new (FromBelow (UsesAt i.takes (first_operand body i depth)) (length i.takes)) → Grows old new (Uses body i depth)
all_uses body i depth old new g = Grows-same old new (FromBelow (UsesAt i.takes (first_operand body i depth)) (length i.takes)) (Uses body i depth) to from g
  where
    to : (u : SlotUse) → FromBelow (UsesAt i.takes (first_operand body i depth)) (length i.takes) u → Uses body i depth u
    to u (k, lt, (o, at, (n, b, among))) = (o, ap (slice_get i.takes) n ∙ at, b, subst (λ (m : ℕ). IsAmong (first_operand body i depth + operand_slots (take m i.takes)) o.slots u.slot) (sym n) among)

    from : (u : SlotUse) → Uses body i depth u → FromBelow (UsesAt i.takes (first_operand body i depth)) (length i.takes) u
    from u (o, at, b, among) = (u.operand, slice_get_within i.takes u.operand o at, (o, at, (refl, b, among)))
