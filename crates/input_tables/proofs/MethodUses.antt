-- Uses of nodes at points, as they are gathered.
use Rattle.std.proofs.Common.{◌≡◌, ◌⊎◌, ◌↔◌, ◌+◌, ℕ, Bool, true, false, List, [], Contains, Option, Some, inl, inr, refl, sym, ap, subst, ◌∙◌}
use Rattle.std.specs.Prelude.{slice_get}
use Rattle.std.proofs.lemmas.Option.{same_Some}
use Rattle.slicer_ids.specs.declared.ids.LocId.{LocId}
use Rattle.class_form.specs.declared.body.Point.{Point}
use Rattle.dep_form.specs.declared.node.Node.{Node}
use Rattle.dep_form.specs.declared.node.Node.TheVariants.{HeapArg, HeapResult}
use Rattle.mod_ref.specs.Gains.{Gains}
use Rattle.mod_ref.proofs.Gaining.{gained, gains_both, gains_same}
use Rattle.input_tables.specs.declared.uses.Use.{Use}
use Rattle.input_tables.specs.Control.{StandsAt}
use Rattle.input_tables.specs.Uses.{IsCalleeUse, IsFoundUse, IsPlacedUse, IsUseAt, callee_node, use_of}

pub placed_is : (first q i : ℕ) (place : Option ℕ) (n : LocId) → place ≡ Some i → (x : Use) → (x ≡ use_of q (first + i) n) ↔ IsPlacedUse first q place n x
placed_is first q i place n is x = (λ e. (i, is, e), λ (j, at, e). e ∙ ap (λ (z : ℕ). use_of q (first + z) n) (same_Some j i (sym at ∙ is)))

pub found_is : (first q : ℕ) (point place : Option ℕ) (n : LocId) → point ≡ Some q → (x : Use) → IsPlacedUse first q place n x ↔ IsFoundUse first point place n x
found_is first q point place n is x = (λ p. (q, is, p), λ (r, at, p). subst (λ (z : ℕ). IsPlacedUse first z place n x) (same_Some r q (sym at ∙ is)) p)

pub use_is : (points : List Point) (first : ℕ) (row : List Node) (pc : ℕ) (k : Node) (n : LocId) (point place : Option ℕ) → ((q : ℕ) → (point ≡ Some q) ↔ StandsAt points q pc) → ((i : ℕ) → (place ≡ Some i) ↔ (slice_get row i ≡ Some k))
    → (x : Use) → IsFoundUse first point place n x ↔ IsUseAt points first row pc k n x
use_is points first row pc k n point place stands there x = (λ (q, a, (i, b, e)). (q, i, (stands q).0 a, (there i).0 b, e), λ (q, i, a, b, e). (q, (stands q).1 a, (i, (there i).1 b, e)))

-- ---- locations before and after calls
abbrev loc : ℕ → LocId
loc n = record { 0 = n }

abbrev pair_in : Node → ℕ × LocId
pair_in (HeapArg pc n) = (pc, n)
pair_in (HeapResult pc n) = (pc, n)
pair_in k = (0, loc 0)

abbrev result_of : ℕ × LocId → Node
result_of z = HeapResult z.0 z.1

abbrev argument_of : ℕ × LocId → Node
argument_of z = HeapArg z.0 z.1

pub changed_is : (k : Node) (pc : ℕ) (n : LocId) → k ≡ HeapResult pc n → (r : ℕ) (l : LocId) → (◌≡◌ {A = Option (ℕ × LocId)} (Some (pc, n)) (Some (r, l))) ↔ (k ≡ callee_node true r l)
changed_is k pc n is r l = (λ e. is ∙ ap result_of (same_Some (pc, n) (r, l) e), λ e. ap (λ (z : Node). Some (pair_in z)) (sym is ∙ e))

pub used_is : (k : Node) (pc : ℕ) (n : LocId) → k ≡ HeapArg pc n → (r : ℕ) (l : LocId) → (◌≡◌ {A = Option (ℕ × LocId)} (Some (pc, n)) (Some (r, l))) ↔ (k ≡ callee_node false r l)
used_is k pc n is r l = (λ e. is ∙ ap argument_of (same_Some (pc, n) (r, l) e), λ e. ap (λ (z : Node). Some (pair_in z)) (sym is ∙ e))

pub callee_is : (points : List Point) (first : ℕ) (row : List Node) (write : Bool) (k : Node) (pc : ℕ) (n : LocId) (found : Option (ℕ × LocId))
    → ((r : ℕ) (l : LocId) → (found ≡ Some (r, l)) ↔ (k ≡ callee_node write r l)) → found ≡ Some (pc, n) → (x : Use) → IsUseAt points first row pc k n x ↔ IsCalleeUse points first row write k x
callee_is points first row write k pc n found is at x = (
  λ a. (pc, n, (is pc n).0 at, a),
  λ (r, l, e, a). subst (λ (z : ℕ × LocId). IsUseAt points first row z.0 k z.1 x) (same_Some (r, l) (pc, n) (sym ((is r l).1 e) ∙ at)) a,
)

pub three_gained : (P Q R : Use → Type 0) (start one two new : List Use) → start ≡ [] → Gains start one P → Gains one two Q → Gains two new R → (x : Use) → Contains new x ↔ (P x ⊎ (Q x ⊎ R x))
three_gained P Q R start one two new nil g h k =
    gained start new (λ x. P x ⊎ (Q x ⊎ R x)) nil (gains_both start one new P (λ x. Q x ⊎ R x) g (gains_both one two new Q R h k))
