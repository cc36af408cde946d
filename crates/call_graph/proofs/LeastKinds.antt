-- The least of the kinds by which a call is refused.
use Rattle.std.proofs.Common.{◌≡◌, ◌⊎◌, ◌<◌, ℕ, Bool, true, false, Option, Some, None, inl, inr, refl, sym, ap, ◌∙◌, arith}
use Rattle.slicer_ids.specs.declared.ids.Statement.{Statement}
use Rattle.std.proofs.lemmas.Option.{same_Some}
use Rattle.call_graph.specs.declared.refusals.RefusedKind.{RefusedKind}
use Rattle.call_graph.specs.declared.refusals.RefusedKind.TheVariants.{Native, Dynamic, Reflection}
use Rattle.call_graph.specs.Refusals.{IsFirst, rank_of}
use Rattle.call_graph.specs.ByNumber.{IsKind, IsLeastKind}
use Rattle.call_graph.proofs.Earliest.{refused_is}

after_native : (l : RefusedKind) → (l ≡ Native) ⊎ (rank_of Native < rank_of l)
after_native Native = inl refl
after_native Dynamic = inr (omega arith)
after_native (Reflection n) = inr (omega arith)

pub least_native : (native dynamic : Bool) (refused : Option ℕ) → native ≡ true → IsLeastKind (IsKind native dynamic refused) (Some Native)
least_native native dynamic refused e = (e, λ l h. after_native l)

after_dynamic : (native dynamic : Bool) (refused : Option ℕ) → native ≡ false → (l : RefusedKind) → IsKind native dynamic refused l → (l ≡ Dynamic) ⊎ (rank_of Dynamic < rank_of l)
after_dynamic native dynamic refused unset Native h = absurd (cc (sym h ∙ unset))
after_dynamic native dynamic refused unset Dynamic h = inl refl
after_dynamic native dynamic refused unset (Reflection n) h = inr (omega arith)

pub least_dynamic : (native dynamic : Bool) (refused : Option ℕ) → native ≡ false → dynamic ≡ true → IsLeastKind (IsKind native dynamic refused) (Some Dynamic)
least_dynamic native dynamic refused unset e = (e, λ l h. after_dynamic native dynamic refused unset l h)

no_kind : (refused : Option ℕ) → refused ≡ None → (l : RefusedKind) → IsKind false false refused l → ⊥
no_kind refused none Native h = cc h
no_kind refused none Dynamic h = cc h
no_kind refused none (Reflection n) h = cc (sym none ∙ h)

pub least_none : (refused : Option ℕ) → refused ≡ None → IsLeastKind (IsKind false false refused) None
least_none refused none = λ l h. no_kind refused none l h

one_reflection : (refused : Option ℕ) (n : ℕ) → refused ≡ Some n → (l : RefusedKind) → IsKind false false refused l → (l ≡ Reflection n) ⊎ (rank_of (Reflection n) < rank_of l)
one_reflection refused n is Native h = absurd (cc h)
one_reflection refused n is Dynamic h = absurd (cc h)
one_reflection refused n is (Reflection m) h = inl (ap (λ (k : ℕ). Reflection k) (same_Some m n (sym h ∙ is)))

pub least_reflection : (refused : Option ℕ) (n : ℕ) → refused ≡ Some n → IsLeastKind (IsKind false false refused) (Some (Reflection n))
least_reflection refused n is = (is, λ l h. one_reflection refused n is l h)

-- at a place
pub none_there : (P : RefusedKind → Type 0) (t : Statement) → IsLeastKind P None → IsFirst (λ r. (r.place ≡ t) × P r.kind) None
none_there P t none = λ r (at, p). none r.kind p

pub first_there : (P : RefusedKind → Type 0) (t : Statement) (kind : RefusedKind) → IsLeastKind P (Some kind) → IsFirst (λ r. (r.place ≡ t) × P r.kind) (Some (record { kind = kind; place = t }))
first_there P t kind least = (
  (refl, least.0),
  λ q (at, p). elim (least.1 q.kind p) [ inl e ↦ inl (refused_is q (record { kind = kind; place = t }) at e) | inr lt ↦ inr (inr (sym at, lt)) ],
)
