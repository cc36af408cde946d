-- Class files have one order, and no cause of a refusal where they have one.
use Rattle.std.proofs.Common.{◌≡◌, ℕ, ◌<◌, ◌⊎◌, inl, inr, List, Some, refl, sym, ap, subst, ◌∙◌, arith}
use Rattle.std.specs.Prelude.{IsPermutation, Contains}
use Rattle.std.proofs.lemmas.Bool.{cases_order}
use Rattle.std.proofs.lemmas.Option.{same_Some}
use Rattle.std.proofs.lemmas.List.Elements.{All-contains_itself}
use Rattle.std.proofs.lemmas.List.Sorted.{All-permutation, IsPermutation-sym, Contains-permutation}
use Rattle.slicer_ids.specs.Order.{BytesBefore}
use Rattle.slicer_ids.specs.Sets.{IsOrderedListOf}
use Rattle.slicer_ids.proofs.Ordered.{one_ordered}
use Rattle.slicer_ids.proofs.Texts.{bytes_asym}
use Rattle.class_form.specs.Classes.{class_name, AreInOrder}
use Rattle.class_form.specs.Folders.{IsLeastName, AreDistinct, IsHierarchyOf}
use Rattle.class_form.specs.declared.class_file.ClassFile.{ClassFile}
use Rattle.hierarchy.specs.Causes.{IsCause}
use Rattle.hierarchy.specs.declared.tree.TreeError.TheVariants.{Duplicate, Cycle}
use Rattle.hierarchy.proofs.Rows.{not_twice}
use Rattle.hierarchy.proofs.Renumbering.{distinct_of, least_own_of}

-- what has one list in order has one name that is the first
pub one_least : (P : List ℕ → Type 0) (a b : List ℕ) → IsLeastName P a → IsLeastName P b → a ≡ b
one_least P a b h g = elim (h.1 b g.0) [
  | inl e ↦ sym e
  | inr p ↦ elim (g.1 a h.0) [ inl e ↦ e | inr q ↦ absurd (bytes_asym a b p q) ]
]

abbrev Before : ClassFile → ClassFile → Type 0
Before a b = (x : List ℕ) × (y : List ℕ) × (class_name a ≡ Some x) × (class_name b ≡ Some y) × BytesBefore x y

class_asym : (a b : ClassFile) → Before a b → Before b a → ⊥
class_asym a b (x, y, p, q, r) (y', x', q', p', r') =
    let first = same_Some x x' (sym p ∙ p') in
    let second = same_Some y y' (sym q ∙ q') in
    bytes_asym x y r (subst (λ z. BytesBefore y z) (sym first) (subst (λ z. BytesBefore z x') (sym second) r'))

ordered : (files classes : List ClassFile) → IsHierarchyOf files classes → IsOrderedListOf Before classes (Contains files)
ordered files classes h = record {
  each = All-permutation (Contains files) files classes h.same (All-contains_itself files);
  order = h.order;
  whole = λ x c. Contains-permutation files classes x h.same c;
}

pub one_tree : (files a b : List ClassFile) → IsHierarchyOf files a → IsHierarchyOf files b → a ≡ b
one_tree files a b h g = one_ordered Before (Contains files) a b (λ x y p q. class_asym x y) (ordered files a h) (ordered files b g)

distinct : (classes : List ClassFile) → AreInOrder classes → AreDistinct classes
distinct classes o name t = elim (cases_order t.0 t.1) [
  | inl e ↦ t.2 e
  | inr (inl lt) ↦ not_twice classes name t.0 t.1 o t.3 t.4 lt
  | inr (inr gt) ↦ not_twice classes name t.1 t.0 o t.4 t.3 gt
]

pub tree_not_twice : (files classes : List ClassFile) (name : List ℕ) → IsHierarchyOf files classes → IsCause files (Duplicate name) → ⊥
tree_not_twice files classes name h cause = distinct_of files classes h.same (distinct classes h.order) name cause.0

pub tree_no_cycle : (files classes : List ClassFile) (name : List ℕ) → IsHierarchyOf files classes → IsCause files (Cycle name) → ⊥
tree_no_cycle files classes name h cause =
    let least = least_own_of classes files (IsPermutation-sym files classes h.same) name cause.1 in
    h.acyclic least.0.0 least.0.2
