-- Pairs of classes, one after another.
use Rattle.std.proofs.Common.{◌≡◌, ◌⊎◌, ◌<◌, ◌+◌, ℕ, List, [], ◌∷◌, ◌++◌, length, inl, inr, refl, sym, ap, subst, ◌∙◌, arith}
use Rattle.std.proofs.lemmas.Bool.{cases_lt}
use Rattle.slicer_ids.specs.Sets.{IsOrderedListOf}
use Rattle.slicer_ids.specs.declared.ids.ClassId.{ClassId}
use Rattle.slicer_ids.proofs.GrowingOrder.{pushed, reworded, without}
use Rattle.class_form.specs.Classes.{IsSub}
use Rattle.class_form.specs.declared.class_file.ClassFile.{ClassFile}
use Rattle.signature_tables.specs.Pairs.{ClassesBefore, IsSubPair, IsSubPairUpTo}

same_pair : (a b : ℕ) (p : ClassId × ClassId) → p.0.0 ≡ a → p.1.0 ≡ b → ◌≡◌ {A = ClassId × ClassId} (record { 0 = a }, record { 0 = b }) p
same_pair a b p e f = ap (λ n. (record { 0 = n }, record { 0 = b })) (sym e) ∙ ap (λ n. (p.0, record { 0 = n })) (sym f)

module _ (classes : List ClassFile) where
  abbrev UpTo : ℕ → ℕ → ClassId × ClassId → Type 0
  UpTo a b = IsSubPairUpTo classes a b

  -- the pair itself, or one before
  step : (a b : ℕ) (p : ClassId × ClassId) → UpTo a (b + 1) p → UpTo a b p ⊎ ◌≡◌ {A = ClassId × ClassId} (record { 0 = a }, record { 0 = b }) p
  step a b p (is, inl lt) = inl (is, inl lt)
  step a b p (is, inr (e, lt)) = elim (cases_lt p.1.0 b) [
    | inl less ↦ inl (is, inr (e, less))
    | inr le ↦ inr (same_pair a b p e (omega (arith, le, lt)))
  ]

  wider : (a b : ℕ) (p : ClassId × ClassId) → UpTo a b p → UpTo a (b + 1) p
  wider a b p (is, inl lt) = (is, inl lt)
  wider a b p (is, inr (e, lt)) = (is, inr (e, omega (arith, lt)))

  pub pair_added : (a b : ℕ) (pairs : List (ClassId × ClassId)) → a < length classes → b < length classes → IsSub classes a b →
      IsOrderedListOf ClassesBefore pairs (UpTo a b) → IsOrderedListOf ClassesBefore (pairs ++ (record { 0 = a }, record { 0 = b }) ∷ []) (UpTo a (b + 1))
  pair_added a b pairs la lb is h =
      pushed ClassesBefore pairs (record { 0 = a }, record { 0 = b }) (UpTo a b) (UpTo a (b + 1)) h (λ p u. u.1) (wider a b)
      ((la, lb, is), inr (refl, omega arith)) (step a b)

  pub pair_passed : (a b : ℕ) (pairs : List (ClassId × ClassId)) → (IsSub classes a b → ⊥) → IsOrderedListOf ClassesBefore pairs (UpTo a b) →
      IsOrderedListOf ClassesBefore pairs (UpTo a (b + 1))
  pair_passed a b pairs never h = reworded ClassesBefore pairs (UpTo a b) (UpTo a (b + 1)) (wider a b) (λ p u. elim (step a b p u) [
    | inl before ↦ before
    | inr same ↦ absurd (never (subst (λ (q : ClassId × ClassId). IsSub classes q.0.0 q.1.0) (sym same) u.0.2))
  ]) h

  pub class_done : (a count : ℕ) (pairs : List (ClassId × ClassId)) → count ≡ length classes → IsOrderedListOf ClassesBefore pairs (UpTo a count) →
      IsOrderedListOf ClassesBefore pairs (UpTo (a + 1) 0)
  class_done a count pairs e h = reworded ClassesBefore pairs (UpTo a count) (UpTo (a + 1) 0)
      (λ p u. (u.0, elim u.1 [ inl lt ↦ inl (omega (arith, lt)) | inr (f, lt) ↦ inl (omega (arith, f)) ]))
      (λ p u. (
        u.0,
        elim u.1 [
          | inl lt ↦ elim (cases_lt p.0.0 a) [ inl less ↦ inl less | inr le ↦ inr (omega (arith, le, lt), omega (arith, e, u.0.1)) ]
          | inr (f, lt) ↦ absurd (omega (arith, lt))
        ],
      )) h

  pub all_classes : (count : ℕ) (pairs : List (ClassId × ClassId)) → count ≡ length classes → IsOrderedListOf ClassesBefore pairs (UpTo count 0) →
      IsOrderedListOf ClassesBefore pairs (IsSubPair classes)
  all_classes count pairs e h = reworded ClassesBefore pairs (UpTo count 0) (IsSubPair classes) (λ p u. u.0) (λ p is. (is, inl (omega (arith, e, is.0)))) h

  pub no_pairs : (pairs : List (ClassId × ClassId)) → pairs ≡ [] → IsOrderedListOf ClassesBefore pairs (UpTo 0 0)
  no_pairs pairs nil = without ClassesBefore pairs (UpTo 0 0) nil (λ p u. elim u.1 [ inl lt ↦ omega (arith, lt) | inr (e, lt) ↦ omega (arith, lt) ])
