-- The order of refused statements, and the first of two sets.
use Rattle.std.proofs.Common.{◌≡◌, ◌⊎◌, ◌↔◌, ◌<◌, ℕ, Option, Some, None, inl, inr, refl, sym, ap, subst, ◌∙◌, arith}
use Rattle.std.proofs.lemmas.Bool.{cases_lt}
use Rattle.slicer_ids.specs.declared.ids.Statement.{Statement}
use Rattle.call_graph.specs.declared.refusals.Refused.{Refused}
use Rattle.call_graph.specs.declared.refusals.RefusedKind.{RefusedKind}
use Rattle.call_graph.specs.declared.refusals.RefusedKind.TheVariants.{Native, Dynamic, Reflection}
use Rattle.call_graph.specs.Refusals.{IsFirst, RefusedBefore, rank_of}
use Rattle.call_graph.specs.ByNumber.{IsFirstOf}

-- less by three numbers, one after the other
abbrev Less3 : (a b c x y z : ℕ) → Type 0
Less3 a b c x y z = (a < x) ⊎ ((a ≡ x) × ((b < y) ⊎ ((b ≡ y) × (c < z))))

trans3 : (a b c x y z p q r : ℕ) → Less3 a b c x y z → Less3 x y z p q r → Less3 a b c p q r
trans3 a b c x y z p q r (inl h) (inl g) = inl (omega (arith, h, g))
trans3 a b c x y z p q r (inl h) (inr g) = inl (omega (arith, h, g.0))
trans3 a b c x y z p q r (inr h) (inl g) = inl (omega (arith, h.0, g))
trans3 a b c x y z p q r (inr (e, inl h)) (inr (f, inl g)) = inr (omega (arith, e, f), inl (omega (arith, h, g)))
trans3 a b c x y z p q r (inr (e, inl h)) (inr (f, inr g)) = inr (omega (arith, e, f), inl (omega (arith, h, g.0)))
trans3 a b c x y z p q r (inr (e, inr h)) (inr (f, inl g)) = inr (omega (arith, e, f), inl (omega (arith, h.0, g)))
trans3 a b c x y z p q r (inr (e, inr h)) (inr (f, inr g)) = inr (omega (arith, e, f), inr (omega (arith, h.0, g.0), omega (arith, h.1, g.1)))

some_way : (a b c x y z : ℕ) → Less3 a b c x y z ⊎ (((a ≡ x) × (b ≡ y) × (c ≡ z)) ⊎ Less3 x y z a b c)
some_way a b c x y z = elim (cases_lt a x) [
  | inl lt ↦ inl (inl lt)
  | inr ge ↦ elim (cases_lt x a) [
    | inl gt ↦ inr (inr (inl gt))
    | inr le ↦ elim (cases_lt b y) [
      | inl lt ↦ inl (inr (omega (arith, ge, le), inl lt))
      | inr ge2 ↦ elim (cases_lt y b) [
        | inl gt ↦ inr (inr (inr (omega (arith, ge, le), inl gt)))
        | inr le2 ↦ elim (cases_lt c z) [
          | inl lt ↦ inl (inr (omega (arith, ge, le), inr (omega (arith, ge2, le2), lt)))
          | inr ge3 ↦ elim (cases_lt z c) [
            | inl gt ↦ inr (inr (inr (omega (arith, ge, le), inr (omega (arith, ge2, le2), gt))))
            | inr le3 ↦ inr (inl (omega (arith, ge, le), omega (arith, ge2, le2), omega (arith, ge3, le3)))
          ]
        ]
      ]
    ]
  ]
]

abbrev Less : Refused → Refused → Type 0
Less a b = Less3 a.place.method.0 a.place.pc (rank_of a.kind) b.place.method.0 b.place.pc (rank_of b.kind)

pub to_numbers : (a b : Refused) → RefusedBefore a b → Less a b
to_numbers a b (inl (inl lt)) = inl lt
to_numbers a b (inl (inr (e, lt))) = inr (ap (λ m. m.0) e, inl lt)
to_numbers a b (inr (e, lt)) = inr (ap (λ (t : Statement). t.method.0) e, inr (ap (λ (t : Statement). t.pc) e, lt))

place_is : (a b : Statement) → a.method.0 ≡ b.method.0 → a.pc ≡ b.pc → a ≡ b
place_is a b m pc = ap (λ (n : ℕ). record { method = record { 0 = n }; pc = a.pc }) m ∙ ap (λ (n : ℕ). record { method = b.method; pc = n }) pc

pub from_numbers : (a b : Refused) → Less a b → RefusedBefore a b
from_numbers a b (inl lt) = inl (inl lt)
from_numbers a b (inr (e, inl lt)) = inl (inr (ap (λ (n : ℕ). record { 0 = n }) e, lt))
from_numbers a b (inr (e, inr (f, lt))) = inr (place_is a.place b.place e f, lt)

kind_is : (a b : RefusedKind) → rank_of a ≡ rank_of b → a ≡ b
kind_is Native Native e = refl
kind_is Native Dynamic e = absurd (omega (arith, e))
kind_is Native (Reflection n) e = absurd (omega (arith, e))
kind_is Dynamic Native e = absurd (omega (arith, e))
kind_is Dynamic Dynamic e = refl
kind_is Dynamic (Reflection n) e = absurd (omega (arith, e))
kind_is (Reflection m) Native e = absurd (omega (arith, e))
kind_is (Reflection m) Dynamic e = absurd (omega (arith, e))
kind_is (Reflection m) (Reflection n) e = let f : m ≡ n = omega (arith, e) in ap (λ (k : ℕ). Reflection k) f

pub refused_is : (a b : Refused) → a.place ≡ b.place → a.kind ≡ b.kind → a ≡ b
refused_is a b p k = rw (← p, ← k) refl

pub before_trans : (a b c : Refused) → RefusedBefore a b → RefusedBefore b c → RefusedBefore a c
before_trans a b c h g = from_numbers a c (trans3 a.place.method.0 a.place.pc (rank_of a.kind) b.place.method.0 b.place.pc (rank_of b.kind) c.place.method.0 c.place.pc (rank_of c.kind) (to_numbers a b h) (to_numbers b c g))

pub either_way : (a b : Refused) → RefusedBefore a b ⊎ ((a ≡ b) ⊎ RefusedBefore b a)
either_way a b = elim (some_way a.place.method.0 a.place.pc (rank_of a.kind) b.place.method.0 b.place.pc (rank_of b.kind)) [
  | inl h ↦ inl (from_numbers a b h)
  | inr o ↦ inr (elim o [ inl (e, f, g) ↦ inl (refused_is a b (place_is a.place b.place e f) (kind_is a.kind b.kind g)) | inr h ↦ inr (from_numbers b a h) ])
]

-- ---- the first of two sets
module _ (P Q : Refused → Type 0) where
  pub first_left : (r : Refused) → IsFirst P (Some r) → ((q : Refused) → Q q → (q ≡ r) ⊎ RefusedBefore r q) → IsFirst (λ q. P q ⊎ Q q) (Some r)
  first_left r p others = (inl p.0, λ q h. elim h [ inl a ↦ p.1 q a | inr b ↦ others q b ])

  pub first_right : (r : Refused) → IsFirst Q (Some r) → ((q : Refused) → P q → (q ≡ r) ⊎ RefusedBefore r q) → IsFirst (λ q. P q ⊎ Q q) (Some r)
  first_right r p others = (inr p.0, λ q h. elim h [ inl a ↦ others q a | inr b ↦ p.1 q b ])

-- what is after one is after an earlier one
pub after_earlier : (P : Refused → Type 0) (r s : Refused) → RefusedBefore r s → IsFirst P (Some s) → (q : Refused) → P q → (q ≡ r) ⊎ RefusedBefore r q
after_earlier P r s lt f q p = elim (f.1 q p) [ inl e ↦ inr (subst (RefusedBefore r) (sym e) lt) | inr h ↦ inr (before_trans r s q lt h) ]

pub after_same : (P : Refused → Type 0) (r s : Refused) → (RefusedBefore s r → ⊥) → IsFirst P (Some s) → (q : Refused) → P q → (q ≡ r) ⊎ RefusedBefore r q
after_same P r s never f q p = elim (either_way r s) [
  | inl lt ↦ after_earlier P r s lt f q p
  | inr o ↦ elim o [
    | inl e ↦ elim (f.1 q p) [ inl is ↦ inl (is ∙ sym e) | inr h ↦ inr (subst (λ x. RefusedBefore x q) (sym e) h) ]
    | inr back ↦ absurd (never back)
  ]
]

-- the first of one or the other is the first of the two firsts
pub first_of_both : (P Q : Refused → Type 0) (a b r : Option Refused) → IsFirstOf a b r → IsFirst P a → IsFirst Q b → IsFirst (λ q. P q ⊎ Q q) r
first_of_both P Q None None r is p q = subst (IsFirst (λ x. P x ⊎ Q x)) (sym is) (λ x h. elim h [ inl a ↦ p x a | inr b ↦ q x b ])
first_of_both P Q None (Some y) r is p q = subst (IsFirst (λ x. P x ⊎ Q x)) (sym is) (first_right P Q y q (λ x h. absurd (p x h)))
first_of_both P Q (Some x) None r is p q = subst (IsFirst (λ z. P z ⊎ Q z)) (sym is) (first_left P Q x p (λ z h. absurd (q z h)))
first_of_both P Q (Some x) (Some y) r (inl (is, lt)) p q = subst (IsFirst (λ z. P z ⊎ Q z)) (sym is) (first_right P Q y q (λ z h. after_earlier P y x lt p z h))
first_of_both P Q (Some x) (Some y) r (inr (is, never)) p q = subst (IsFirst (λ z. P z ⊎ Q z)) (sym is) (first_left P Q x p (λ z h. after_same Q x y never q z h))

pub first_same : (P Q : Refused → Type 0) (o : Option Refused) → ((r : Refused) → P r ↔ Q r) → IsFirst P o → IsFirst Q o
first_same P Q None is f = λ r q. f r ((is r).1 q)
first_same P Q (Some x) is f = ((is x).0 f.0, λ q h. f.1 q ((is q).1 h))
