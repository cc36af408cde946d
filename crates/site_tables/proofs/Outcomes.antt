-- The descriptors of methods: arguments, and what follows them.
use Rattle.std.proofs.Common.{◌≡◌, ◌≢◌, ℕ, List, [], ◌∷◌, ◌++◌, Option, Some, None, drop, refl, sym, ap, subst, ◌∙◌, inl, inr, append_assoc, append-nil}
use Rattle.std.specs.Prelude.{slice_index_or}
use Rattle.std.specs.List.{AllByRecursion}
use Rattle.std.proofs.lemmas.Option.{same_Some}
use Rattle.class_form.specs.Pools.{descriptor_at}
use Rattle.class_form.specs.declared.pool.Pool.{Pool}
use Rattle.class_form.specs.declared.types.FieldType.{FieldType}
use Rattle.class_form.specs.declared.types.MethodType.{MethodType}
use Rattle.class_form.specs.Types.{IsType, IsMethodType, spell_type, spell_types, spell_result}
use Rattle.class_form.proofs.OneType.{same_types, one_method_type, type_begins}
use Rattle.jvm_names.specs.Reading.{StartsWithArguments, IsOutcome}
use Rattle.jvm_names.proofs.Arguments.{no_more_arguments}
use Rattle.site_tables.specs.declared.fresh.Fresh.{Fresh}
use Rattle.site_tables.specs.Making.{IsFreshOf, IsResultOf, ResultIn, OutcomeFresh}

-- what follows the first argument are the others
pub next_argument : (bytes after : List ℕ) (us : List FieldType) (rest : List ℕ) → AllByRecursion IsType us → bytes ≡ spell_types us ++ 41 ∷ rest → slice_index_or bytes 0 0 ≢ 41 →
    ((u : FieldType) (r : List ℕ) → IsType u → bytes ≡ spell_type u ++ r → after ≡ r) → (vs : List FieldType) × AllByRecursion IsType vs × (after ≡ spell_types vs ++ 41 ∷ rest)
next_argument bytes after [] rest all e other follows = absurd (other (ap (λ x. slice_index_or x 0 0) e))
next_argument bytes after (u ∷ us) rest all e other follows = (us, all.1, follows u (spell_types us ++ 41 ∷ rest) all.0 (e ∙ append_assoc (spell_type u) (spell_types us) (41 ∷ rest)))

pub last_argument : (bytes : List ℕ) (us : List FieldType) (rest : List ℕ) → AllByRecursion IsType us → bytes ≡ spell_types us ++ 41 ∷ rest → StartsWithArguments bytes → slice_index_or bytes 0 0 ≡ 41 → drop 1 bytes ≡ rest
last_argument bytes us rest all e starts here =
    let end = no_more_arguments bytes starts here in
    ap (λ x. drop 1 x) end.1 ∙ (same_types [] us end.0 rest tt all (sym end.1 ∙ e)).1

-- a result that isn't `V` is a type
pub outcome_type : (r : Option FieldType) (bytes : List ℕ) → IsOutcome bytes r → slice_index_or bytes 0 0 ≢ 86 → (t : FieldType) × (r ≡ Some t) × IsType t × (bytes ≡ spell_type t ++ [])
outcome_type None bytes is other = absurd (other (ap (λ x. slice_index_or x 0 0) is.1))
outcome_type (Some t) bytes is other = (t, refl, is.0, is.1 ∙ sym (append-nil (spell_type t)))

pub no_type : (r : Option FieldType) (bytes : List ℕ) → IsOutcome bytes r → slice_index_or bytes 0 0 ≡ 86 → r ≡ None
no_type None bytes is here = refl
no_type (Some t) bytes is here =
    let b = type_begins t is.0 in
    absurd (b.3 (sym (ap (λ x. slice_index_or x 0 0) (is.1 ∙ b.2)) ∙ here))

pub not_empty : (r : Option FieldType) (bytes : List ℕ) → IsOutcome bytes r → (b : ℕ) × (others : List ℕ) × (bytes ≡ b ∷ others)
not_empty None bytes is = (86, [], is.1)
not_empty (Some t) bytes is = let b = type_begins t is.0 in (b.0, b.1, is.1 ∙ b.2)

-- what the result has afresh
pub result_fresh : (bytes : List ℕ) (m : MethodType) (o : Option FieldType) (x : Fresh) → IsMethodType bytes m → m.result ≡ o → OutcomeFresh o x → IsFreshOf (IsResultOf bytes) x
result_fresh bytes m None x is e fresh = inr (
  λ t h.
      let same = one_method_type bytes h.0 m h.1 is in
      let f : Some t ≡ None = sym h.2 ∙ ap (λ (n : MethodType). n.result) same ∙ e in
      absurd (cc f),
  fresh,
)
result_fresh bytes m (Some t) x is e fresh = inl (t, (m, is, e), fresh)

-- .. of the method that an index of the pool names
pub result_in : (pool : Pool) (i : ℕ) (bytes : List ℕ) (x : Fresh) → descriptor_at pool i ≡ Some bytes → IsFreshOf (IsResultOf bytes) x → IsFreshOf (ResultIn pool i) x
result_in pool i bytes x e (inl (t, is, fresh)) = inl (t, (bytes, e, is), fresh)
result_in pool i bytes x e (inr (never, none)) = inr (
  λ t (other, f, is).
      let same : other ≡ bytes = same_Some other bytes (sym f ∙ e) in
      never t (subst (λ w. IsResultOf w t) same is),
  none,
)
