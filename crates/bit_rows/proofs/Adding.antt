-- How such steps are joined.
use Rattle.std.proofs.Common.{◌⊎◌, inl, inr}
use Rattle.bit_rows.specs.Adds.{Adds, Taken}

-- more members, more that follows
abbrev pub Grows : {A : Type 0} → ((A → Type 0) → A → Type 0) → Type 1
Grows {A} R = (K L : A → Type 0) → ((x : A) → K x → L x) → (x : A) → R K x → R L x

-- those taken stay the same
pub taken_on : {A : Type 0} (g t g' t' : A → Type 0) (R : (A → Type 0) → A → Type 0) → Adds g t g' t' R → (x : A) → Taken g t x → Taken g' t' x
taken_on g t g' t' R a x k = (a.kept x k.0, λ h. elim (a.within x h) [ inl o ↦ k.1 o | inr n ↦ n.1 k.0 ])

pub taken_back : {A : Type 0} (g t g' t' : A → Type 0) (R : (A → Type 0) → A → Type 0) → Adds g t g' t' R → (x : A) → Taken g' t' x → Taken g t x
taken_back g t g' t' R a x k = (elim (a.fresh x k.0) [ inl o ↦ o | inr n ↦ absurd (k.1 n) ], λ h. k.1 (a.still x h))

pub adds_none : {A : Type 0} (g t : A → Type 0) (R : (A → Type 0) → A → Type 0) → ((x : A) → R (Taken g t) x → g x) → Adds g t g t R
adds_none g t R all = record { kept = λ x h. h; all = all; only = λ x h. inl h; fresh = λ x h. inl h; still = λ x h. h; within = λ x h. inl h }

pub adds_then : {A : Type 0} (g t g1 t1 g2 t2 : A → Type 0) (P Q R : (A → Type 0) → A → Type 0) → Grows Q
    → ((K : A → Type 0) (x : A) → R K x → P K x ⊎ Q K x) → ((K : A → Type 0) (x : A) → P K x ⊎ Q K x → R K x)
    → Adds g t g1 t1 P → Adds g1 t1 g2 t2 Q → Adds g t g2 t2 R
adds_then {A} g t g1 t1 g2 t2 P Q R q to from a b = record {
  kept = λ x h. b.kept x (a.kept x h);
  all = λ x h. elim (to (Taken g t) x h) [ inl u ↦ b.kept x (a.all x u) | inr v ↦ b.all x (q (Taken g t) (Taken g1 t1) (taken_on g t g1 t1 P a) x v) ];
  only = λ x h. elim (b.only x h) [ inl m ↦ elim (a.only x m) [ inl o ↦ inl o | inr u ↦ inr (from (Taken g t) x (inl u)) ] | inr v ↦ inr (from (Taken g t) x (inr (q (Taken g1 t1) (Taken g t) (taken_back g t g1 t1 P a) x v))) ];
  fresh = λ x h. elim (b.fresh x h) [ inl m ↦ elim (a.fresh x m) [ inl o ↦ inl o | inr u ↦ inr (b.still x u) ] | inr v ↦ inr v ];
  still = λ x h. b.still x (a.still x h);
  within = λ x h. elim (b.within x h) [ inl m ↦ elim (a.within x m) [ inl o ↦ inl o | inr u ↦ inr (b.kept x u.0, u.1) ] | inr v ↦ inr (v.0, λ o. v.1 (a.kept x o)) ];
}

pub adds_same : {A : Type 0} (g t g' t' : A → Type 0) (P R : (A → Type 0) → A → Type 0)
    → ((x : A) → R (Taken g t) x → P (Taken g t) x) → ((x : A) → P (Taken g t) x → R (Taken g t) x) → Adds g t g' t' P → Adds g t g' t' R
adds_same g t g' t' P R to from a = record {
  kept = a.kept;
  all = λ x h. a.all x (to x h);
  only = λ x h. elim (a.only x h) [ inl o ↦ inl o | inr u ↦ inr (from x u) ];
  fresh = a.fresh;
  still = a.still;
  within = a.within;
}
