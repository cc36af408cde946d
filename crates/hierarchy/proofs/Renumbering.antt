-- What holds of class files in any order.
use Rattle.std.proofs.Common.{◌≡◌, ℕ, ◌<◌, ◌⊎◌, inl, inr, List, [], ◌∷◌, length, get_or, refl, sym, ap, subst, ◌∙◌, arith, Some}
use Rattle.std.specs.Prelude.{IsPermutation, slice_get}
use Rattle.std.specs.List.{swap}
use Rattle.std.proofs.lemmas.Bool.{cases_order}
use Rattle.std.proofs.lemmas.List.Edits.{swapped_from_swap}
use Rattle.std.proofs.lemmas.List.Sorted.{IsPermutation-keeps, IsPermutation-swap, IsPermutation-sym, length_permutation}
use Rattle.std.proofs.lemmas.Option.{slice_get_read, slice_get_within, get_or_from_slice_get}
use Rattle.slicer_ids.specs.Order.{BytesBefore}
use Rattle.slicer_ids.specs.Walks.{IsWalk, LeadsOn}
use Rattle.class_form.specs.Classes.{IsClass, IsNamed, IsAbove}
use Rattle.class_form.specs.Folders.{StandsTwice, IsOwnAncestor, IsLeastName, AreDistinct}
use Rattle.class_form.specs.declared.class_file.ClassFile.{ClassFile}
use Rattle.hierarchy.proofs.Swaps.{IsMoved, from_second, from_first, from_there}

-- each class file stands at a place of its own in the other list
pub record IsRenumbering (xs ys : List ClassFile) : Type 0 where
  pub to : ℕ → ℕ
  pub same : (a : ℕ) (k : ClassFile) → IsClass xs a k → IsClass ys (to a) k
  pub one : (a b : ℕ) (k j : ClassFile) → IsClass xs a k → IsClass xs b j → to a ≡ to b → a ≡ b

-- where what stood at a stands after an exchange of i and j
abbrev pick : (i j a : ℕ) → (a ≡ j) ⊎ (a < j ⊎ j < a) → (a ≡ i) ⊎ (a < i ⊎ i < a) → ℕ
pick i j a (inl e) y = i
pick i j a (inr x) (inl e) = j
pick i j a (inr x) (inr y) = a

not_same : (a b : ℕ) → a < b ⊎ b < a → a ≡ b → ⊥
not_same a b (inl lt) e = omega arith
not_same a b (inr gt) e = omega arith

pick_moved : (i j a : ℕ) (x : (a ≡ j) ⊎ (a < j ⊎ j < a)) (y : (a ≡ i) ⊎ (a < i ⊎ i < a)) → IsMoved i j (pick i j a x y) a
pick_moved i j a (inl e) y = from_second refl e
pick_moved i j a (inr x) (inl e) = from_first (λ f. not_same a j x (e ∙ sym f)) refl e
pick_moved i j a (inr x) (inr y) = from_there (not_same a i y) (not_same a j x) refl

one_target : (a b k j l : ℕ) → IsMoved a b k j → IsMoved a b k l → j ≡ l
one_target a b k j l (from_second p q) (from_second r s) = q ∙ sym s
one_target a b k j l (from_second p q) (from_first n r s) = absurd (n p)
one_target a b k j l (from_second p q) (from_there n o s) = absurd (n p)
one_target a b k j l (from_first n p q) (from_second r s) = absurd (n r)
one_target a b k j l (from_first n p q) (from_first o r s) = q ∙ sym s
one_target a b k j l (from_first n p q) (from_there o t s) = absurd (t p)
one_target a b k j l (from_there n o q) (from_second r s) = absurd (n r)
one_target a b k j l (from_there n o q) (from_first t r s) = absurd (o r)
one_target a b k j l (from_there n o q) (from_there t u s) = q ∙ sym s

at_place : (xs : List ClassFile) (i j a c : ℕ) (k : ClassFile) → i < length xs → j < length xs → c < length xs → IsClass xs a k → get_or (swap xs i j) c k ≡ get_or xs a k → IsClass (swap xs i j) c k
at_place xs i j a c k l m n at e =
    let len = length_permutation xs (swap xs i j) (IsPermutation-swap xs (swap xs i j) i j l m refl) in
    slice_get_read (swap xs i j) (length (swap xs i j)) c k refl (omega (arith, len)) (sym (e ∙ get_or_from_slice_get xs a k k at))

pick_same : (xs : List ClassFile) (i j a : ℕ) (k : ClassFile) (x : (a ≡ j) ⊎ (a < j ⊎ j < a)) (y : (a ≡ i) ⊎ (a < i ⊎ i < a)) → i < length xs → j < length xs → IsClass xs a k
    → IsClass (swap xs i j) (pick i j a x y) k
pick_same xs i j a k (inl e) y l m at = let s = swapped_from_swap xs (swap xs i j) i j k l m refl in at_place xs i j a i k l m l at (s.0 ∙ ap (λ n. get_or xs n k) (sym e))
pick_same xs i j a k (inr x) (inl e) l m at = let s = swapped_from_swap xs (swap xs i j) i j k l m refl in at_place xs i j a j k l m m at (s.1 ∙ ap (λ n. get_or xs n k) (sym e))
pick_same xs i j a k (inr x) (inr y) l m at =
    let s = swapped_from_swap xs (swap xs i j) i j k l m refl in
    at_place xs i j a a k l m (slice_get_within xs a k at) at (s.2 a (not_same a i y) (not_same a j x))

after_swap : (xs ys : List ClassFile) (i j : ℕ) → i < length ys → j < length ys → IsRenumbering xs ys → IsRenumbering xs (swap ys i j)
after_swap xs ys i j l m r = record {
  to = λ a. pick i j (r.to a) (cases_order (r.to a) j) (cases_order (r.to a) i);
  same = λ a k at. pick_same ys i j (r.to a) k (cases_order (r.to a) j) (cases_order (r.to a) i) l m (r.same a k at);
  one = λ a b k h at there e. r.one a b k h at there
      (one_target i j (pick i j (r.to b) (cases_order (r.to b) j) (cases_order (r.to b) i)) (r.to a) (r.to b)
      (subst (λ n. IsMoved i j n (r.to a)) e (pick_moved i j (r.to a) (cases_order (r.to a) j) (cases_order (r.to a) i))) (pick_moved i j (r.to b) (cases_order (r.to b) j) (cases_order (r.to b) i)));
}

renumbered : (xs ys : List ClassFile) → IsPermutation xs ys → IsRenumbering xs ys
renumbered xs ys p =
    IsPermutation-keeps xs (IsRenumbering xs) (record { to = λ a. a; same = λ a k at. at; one = λ a b k j at there e. e }) (λ l i j m n h. after_swap xs l i j m n h) ys p

module _ (xs ys : List ClassFile) (r : IsRenumbering xs ys) where
  named_there : (name : List ℕ) (a : ℕ) → IsNamed xs name a → IsNamed ys name (r.to a)
  named_there name a (k, at, e) = (k, r.same a k at, e)

  above_there : (a b : ℕ) → IsAbove xs a b → IsAbove ys (r.to a) (r.to b)
  above_there a b (k, name, at, leads, named) = (k, name, r.same a k at, leads, named_there name b named)

  walk_there : (a b : ℕ) (cs : List ℕ) → IsWalk (IsAbove xs) a cs b → (ds : List ℕ) × IsWalk (IsAbove ys) (r.to a) ds (r.to b)
  walk_there a b [] w = ([], ap r.to w)
  walk_there a b (c ∷ cs) w = let v = walk_there c b cs w.1 in (r.to c ∷ v.0, (above_there a c w.0, v.1))

  twice_there : (name : List ℕ) → StandsTwice xs name → StandsTwice ys name
  twice_there name (a, b, ne, h, g) = (r.to a, r.to b, (λ e. ne (r.one a b h.0 g.0 h.1 g.1 e)), named_there name a h, named_there name b g)

  own_there : (name : List ℕ) → IsOwnAncestor xs name → IsOwnAncestor ys name
  own_there name (c, named, (x, e, (cs, w))) = (r.to c, named_there name c named, (r.to x, above_there c x e, walk_there x c cs w))

least_there : (P Q : List ℕ → Type 0) → ((name : List ℕ) → P name → Q name) → ((name : List ℕ) → Q name → P name) → (name : List ℕ) → IsLeastName P name → IsLeastName Q name
least_there P Q to from name h = (to name h.0, λ other q. h.1 other (from other q))

module _ (files classes : List ClassFile) (p : IsPermutation files classes) where
  pub least_twice_of : (name : List ℕ) → IsLeastName (StandsTwice classes) name → IsLeastName (StandsTwice files) name
  least_twice_of name h =
      least_there (StandsTwice classes) (StandsTwice files) (twice_there classes files (renumbered classes files (IsPermutation-sym files classes p))) (twice_there files classes (renumbered files classes p)) name h

  pub least_own_of : (name : List ℕ) → IsLeastName (IsOwnAncestor classes) name → IsLeastName (IsOwnAncestor files) name
  least_own_of name h =
      least_there (IsOwnAncestor classes) (IsOwnAncestor files) (own_there classes files (renumbered classes files (IsPermutation-sym files classes p))) (own_there files classes (renumbered files classes p)) name h

  pub distinct_of : AreDistinct classes → AreDistinct files
  distinct_of d name h = d name (twice_there files classes (renumbered files classes p) name h)
