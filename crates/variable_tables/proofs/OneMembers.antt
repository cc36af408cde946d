-- The methods of classes, and their fields, have one list in order.
use Rattle.std.proofs.Common.{◌≡◌, ℕ, List, Some, sym, subst, ◌∙◌, inl, inr, arith}
use Rattle.std.specs.Prelude.{slice_get}
use Rattle.std.proofs.lemmas.Option.{same_Some}
use Rattle.slicer_ids.specs.Sets.{IsOrderedListOf}
use Rattle.slicer_ids.proofs.Ordered.{one_ordered}
use Rattle.class_form.specs.Pools.{utf_at}
use Rattle.class_form.specs.Classes.{Declared, IsClass, IsDeclared, IsMethod, IsField}
use Rattle.class_form.specs.Numbers.{MemberBefore, IsThere, AreMethods, AreFields}
use Rattle.class_form.specs.declared.class_file.ClassFile.{ClassFile}
use Rattle.class_form.specs.declared.class_file.Member.{Member}
use Rattle.program_form.specs.Systems.{ForeignBefore}
use Rattle.constraint_form.proofs.SiteNumbers.{foreign_asym}

-- what stands at a place has one name and descriptor
abbrev HasOneText : (Declared → Member → List ℕ → List ℕ → Type 0) → Type 0
HasOneText Is = (a : Declared) (x y : Member) (n d o e : List ℕ) → Is a x n d → Is a y o e → (n ≡ o) × (d ≡ e)

module _ (Is : Declared → Member → List ℕ → List ℕ → Type 0) (one_text : HasOneText Is) where
  asym : (a b : Declared) → MemberBefore Is a b → MemberBefore Is b a → ⊥
  asym a b (x, n, d, y, o, e, ia, ib, inl lt) (x', n', d', y', o', e', ib', ia', inl gt) = omega (arith, lt, gt)
  asym a b (x, n, d, y, o, e, ia, ib, inl lt) (x', n', d', y', o', e', ib', ia', inr (same, rest)) = omega (arith, lt, same)
  asym a b (x, n, d, y, o, e, ia, ib, inr (same, rest)) (x', n', d', y', o', e', ib', ia', inl gt) = omega (arith, gt, same)
  asym a b (x, n, d, y, o, e, ia, ib, inr (same, before)) (x', n', d', y', o', e', ib', ia', inr (again, after)) =
      let first = one_text a x y' n d o' e' ia ia' in
      let second = one_text b y x' o e n' d' ib ib' in
      let turned : ForeignBefore (o, e) (n, d) = subst (λ z. ForeignBefore z (n, d)) (sym (pair second.0 second.1)) (subst (λ z. ForeignBefore (n', d') z) (sym (pair first.0 first.1)) after) in
      foreign_asym (n, d) (o, e) before turned
    where
      pair : {a b c d : List ℕ} → a ≡ c → b ≡ d → ◌≡◌ {A = List ℕ × List ℕ} (a, b) (c, d)
      pair e f = cc (e, f)

  one_list : (xs ys : List Declared) → IsOrderedListOf (MemberBefore Is) xs (IsThere Is) → IsOrderedListOf (MemberBefore Is) ys (IsThere Is) → xs ≡ ys
  one_list xs ys a b = one_ordered (MemberBefore Is) (IsThere Is) xs ys (λ x y u v. asym x y) a b

module _ (classes : List ClassFile) where
  module _ (members : ClassFile → List Member) where
    abbrev Stands : Declared → Member → List ℕ → List ℕ → Type 0
    Stands a x n d = (k : ClassFile) × IsClass classes a.class k × IsDeclared k (members k) n d a.index x

    one_text : HasOneText Stands
    one_text a x y n d o e (j, is, (at, named, described)) (k, has, (there, named_too, described_too)) =
        let file : j ≡ k = same_Some j k (sym is ∙ has) in
        let member : x ≡ y = same_Some x y (sym (subst (λ (z : ClassFile). slice_get (members z) a.index ≡ Some x) file at) ∙ there) in (
          same_Some n o (sym (subst (λ (z : Member). utf_at k.pool z.name ≡ Some n) member (subst (λ (z : ClassFile). utf_at z.pool x.name ≡ Some n) file named)) ∙ named_too),
          same_Some d e (sym (subst (λ (z : Member). utf_at k.pool z.descriptor ≡ Some d) member (subst (λ (z : ClassFile). utf_at z.pool x.descriptor ≡ Some d) file described)) ∙ described_too),
        )

  pub one_methods : (xs ys : List Declared) → AreMethods classes xs → AreMethods classes ys → xs ≡ ys
  one_methods xs ys a b = one_list (IsMethod classes) (one_text (λ k. k.methods)) xs ys a b

  pub one_fields : (xs ys : List Declared) → AreFields classes xs → AreFields classes ys → xs ≡ ys
  one_fields xs ys a b = one_list (IsField classes) (one_text (λ k. k.fields)) xs ys a b
