-- The methods of classes have one numbering.
use Rattle.std.proofs.Common.{◌≡◌, ℕ, List, inl, inr, sym, ap, subst, ◌∙◌, arith}
use Rattle.std.specs.Prelude.{slice_get}
use Rattle.std.proofs.lemmas.Option.{same_Some}
use Rattle.slicer_ids.specs.Order.{BytesBefore}
use Rattle.slicer_ids.proofs.Ordered.{one_ordered}
use Rattle.class_form.specs.Classes.{Declared, IsMethod}
use Rattle.class_form.specs.Numbers.{AreMethods, IsThere, MemberBefore}
use Rattle.class_form.specs.Pools.{utf_at}
use Rattle.class_form.specs.declared.class_file.ClassFile.{ClassFile}
use Rattle.class_form.specs.declared.class_file.Member.{Member}
use Rattle.hierarchy.proofs.Bytes.{before_trans, not_before_itself}

-- a method has one name and one descriptor
one_name : (classes : List ClassFile) (a : Declared) (x y : Member) (n d o e : List ℕ) → IsMethod classes a x n d → IsMethod classes a y o e → (n ≡ o) × (d ≡ e)
one_name classes a x y n d o e (k, at, (member, name, descriptor)) (l, by, (other, called, typed)) =
    let k_is : k ≡ l = same_Some k l (sym at ∙ by) in
    let x_is : x ≡ y = same_Some x y (sym member ∙ ap (λ (z : ClassFile). slice_get z.methods a.index) k_is ∙ other) in (
      same_Some n o (sym name ∙ ap (λ (z : ClassFile). utf_at z.pool x.name) k_is ∙ ap (λ (z : Member). utf_at l.pool z.name) x_is ∙ called),
      same_Some d e (sym descriptor ∙ ap (λ (z : ClassFile). utf_at z.pool x.descriptor) k_is ∙ ap (λ (z : Member). utf_at l.pool z.descriptor) x_is ∙ typed),
    )

not_both_texts : (a b c d : List ℕ) → BytesBefore a b → BytesBefore c d → c ≡ b → d ≡ a → ⊥
not_both_texts a b c d p q e f = not_before_itself a (before_trans a b a p (subst (λ z. BytesBefore b z) f (subst (λ z. BytesBefore z d) e q)))

same_not_before : (a b : List ℕ) → a ≡ b → BytesBefore a b → ⊥
same_not_before a b e p = not_before_itself a (subst (BytesBefore a) (sym e) p)

not_both : (classes : List ClassFile) (a b : Declared) → MemberBefore (IsMethod classes) a b → MemberBefore (IsMethod classes) b a → ⊥
not_both classes a b (x, n, d, y, o, e, is_a, is_b, before) (y', o', e', x', n', d', by, ay, after) =
    let left = one_name classes a x x' n d n' d' is_a ay in
    let right = one_name classes b y y' o e o' e' is_b by in
    elim before [
      | inl lt ↦ elim after [ inl gt ↦ omega (arith, lt, gt) | inr (same, q) ↦ omega (arith, lt, same) ]
      | inr (same, p) ↦ elim after [
        | inl gt ↦ omega (arith, same, gt)
        | inr (again, q) ↦ elim p [
          | inl names ↦ elim q [
            | inl back ↦ not_both_texts n o o' n' names back (sym right.0) (sym left.0)
            | inr (alike, types) ↦ same_not_before n o (left.0 ∙ sym alike ∙ sym right.0) names
          ]
          | inr (alike, types) ↦ elim q [
            | inl back ↦ same_not_before o' n' (sym right.0 ∙ sym alike ∙ left.0) back
            | inr (alike_too, types_too) ↦ not_both_texts d e e' d' types types_too (sym right.1) (sym left.1)
          ]
        ]
      ]
    ]

pub one_numbering : (classes : List ClassFile) (ms ns : List Declared) → AreMethods classes ms → AreMethods classes ns → ms ≡ ns
one_numbering classes ms ns p q = one_ordered (MemberBefore (IsMethod classes)) (IsThere (IsMethod classes)) ms ns (λ a b here there lt gt. not_both classes a b lt gt) p q
