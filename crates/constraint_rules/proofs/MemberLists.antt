-- The fields, and the methods, of classes have one list in order.
use Rattle.std.proofs.Common.{◌≡◌, ℕ, List, Some, sym, subst, ◌∙◌, inl, inr, arith}
use Rattle.std.specs.Prelude.{slice_get}
use Rattle.std.proofs.lemmas.Option.{same_Some}
use Rattle.slicer_ids.specs.Sets.{IsOrderedListOf}
use Rattle.slicer_ids.proofs.Ordered.{one_ordered}
use Rattle.class_form.specs.Pools.{utf_at}
use Rattle.class_form.specs.Classes.{Declared, IsClass, IsDeclared}
use Rattle.class_form.specs.Numbers.{MemberBefore, IsThere}
use Rattle.class_form.specs.declared.class_file.ClassFile.{ClassFile}
use Rattle.class_form.specs.declared.class_file.Member.{Member}
use Rattle.program_form.specs.Systems.{ForeignBefore}
use Rattle.constraint_form.proofs.OnePlace.{one_place}
use Rattle.constraint_form.proofs.SiteNumbers.{foreign_asym}

-- members of a kind: the fields, or the methods, of each class
module _ (classes : List ClassFile) (members_of : ClassFile → List Member) where
  abbrev pub Is : Declared → Member → List ℕ → List ℕ → Type 0
  Is a x n d = (k : ClassFile) × IsClass classes a.class k × IsDeclared k (members_of k) n d a.index x

  -- a member has one name and descriptor
  one_text : (a : Declared) (x y : Member) (n d o e : List ℕ) → Is a x n d → Is a y o e → (n ≡ o) × (d ≡ e)
  one_text a x y n d o e (j, is, (at, named, described)) (k, has, (there, named_too, described_too)) =
      let file : j ≡ k = same_Some j k (sym is ∙ has) in
      let member : x ≡ y = same_Some x y (sym (subst (λ (z : ClassFile). slice_get (members_of z) a.index ≡ Some x) file at) ∙ there) in (
        same_Some n o (sym (subst (λ (z : Member). utf_at k.pool z.name ≡ Some n) member (subst (λ (z : ClassFile). utf_at z.pool x.name ≡ Some n) file named)) ∙ named_too),
        same_Some d e (sym (subst (λ (z : Member). utf_at k.pool z.descriptor ≡ Some d) member (subst (λ (z : ClassFile). utf_at z.pool x.descriptor ≡ Some d) file described)) ∙ described_too),
      )

  asym : (a b : Declared) → MemberBefore Is a b → MemberBefore Is b a → ⊥
  asym a b (x, n, d, y, o, e, ia, ib, inl lt) (x', n', d', y', o', e', ib', ia', inl gt) = omega (arith, lt, gt)
  asym a b (x, n, d, y, o, e, ia, ib, inl lt) (x', n', d', y', o', e', ib', ia', inr (same, rest)) = omega (arith, lt, same)
  asym a b (x, n, d, y, o, e, ia, ib, inr (same, rest)) (x', n', d', y', o', e', ib', ia', inl gt) = omega (arith, gt, same)
  asym a b (x, n, d, y, o, e, ia, ib, inr (same, before)) (x', n', d', y', o', e', ib', ia', inr (again, after)) =
      let first = one_text a x y' n d o' e' ia ia' in
      let second = one_text b y x' o e n' d' ib ib' in
      let turned : ForeignBefore (o, e) (n, d) = subst (λ z. ForeignBefore z (n, d)) (sym (pair second.0 second.1)) (subst (λ z. ForeignBefore (n', d') z) (sym (pair first.0 first.1)) after) in
      foreign_asym (n, d) (o, e) before turned
    where
      pair : {a b c d : List ℕ} → a ≡ c → b ≡ d → ◌≡◌ {A = List ℕ × List ℕ} (a, b) (c, d)
      pair e f = cc (e, f)

  pub one_members : (xs ys : List Declared) → IsOrderedListOf (MemberBefore Is) xs (IsThere Is) → IsOrderedListOf (MemberBefore Is) ys (IsThere Is) → xs ≡ ys
  one_members xs ys a b = one_ordered (MemberBefore Is) (IsThere Is) xs ys (λ x y u v. asym x y) a b

  pub one_number : (xs : List Declared) (d : Declared) (i j : ℕ) → IsOrderedListOf (MemberBefore Is) xs (IsThere Is) → slice_get xs i ≡ Some d → slice_get xs j ≡ Some d → i ≡ j
  one_number xs d i j a e f = one_place (MemberBefore Is) xs a.order (λ x u. asym x x u u) i j d e f
