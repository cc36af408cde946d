-- The formals and the exits among the nodes of a row, and the numbers of the rows' first nodes.
use Rattle.std.proofs.Common.{◌≡◌, ◌≢◌, ◌⊎◌, ◌↔◌, ◌<◌, ◌≤◌, ◌+◌, ◌++◌, ℕ, Bool, true, false, not, List, AllPairs, Contains, length, get_or, take, drop, Some, inl, inr, refl, sym, ap, subst, ◌∙◌, arith, length-append}
use Rattle.std.specs.Prelude.{slice_get, sum_by}
use Rattle.std.specs.List.Sorted.{IsPartitionedBy, IsPartitionPoint}
use Rattle.std.proofs.lemmas.Bool.{cases_lt}
use Rattle.std.proofs.lemmas.List.{length-drop, take-append-drop}
use Rattle.std.proofs.lemmas.Option.{get_or_from_slice_get, slice_get-get_or, slice_get_within}
use Rattle.class_form.proofs.Indices.{index_in, there_at}
use Rattle.dep_form.specs.declared.node.Node.{Node}
use Rattle.dep_form.specs.declared.node.Node.TheVariants.{Formal, HeapIn, Own, Argument, Result, Exception, HeapArg, HeapResult, Return, Thrown, HeapOut}
use Rattle.dep_form.specs.Nodes.{ComesBefore, is_exit, is_formal, rank}
use Rattle.fact_form.proofs.ItemLists.{join_left, join_right, joined}

-- ---- by groups
before_group : (a b : Node) → ComesBefore a b → (rank a).group ≤ (rank b).group
before_group a b (inl lt) = omega (arith, lt)
before_group a b (inr (e, h)) = omega (arith, e)

formal_low : (k : Node) → is_formal k ≡ true → (rank k).group ≤ 1
formal_low (Formal i) e = omega arith
formal_low (HeapIn l) e = omega arith
formal_low (Own pc) e = absurd (cc e)
formal_low (Argument pc i) e = absurd (cc e)
formal_low (Result pc) e = absurd (cc e)
formal_low (Exception pc) e = absurd (cc e)
formal_low (HeapArg pc l) e = absurd (cc e)
formal_low (HeapResult pc l) e = absurd (cc e)
formal_low Return e = absurd (cc e)
formal_low Thrown e = absurd (cc e)
formal_low (HeapOut l) e = absurd (cc e)

low_formal : (k : Node) → (rank k).group ≤ 1 → is_formal k ≡ true
low_formal (Formal i) le = refl
low_formal (HeapIn l) le = refl
low_formal (Own pc) le = absurd (omega (arith, le))
low_formal (Argument pc i) le = absurd (omega (arith, le))
low_formal (Result pc) le = absurd (omega (arith, le))
low_formal (Exception pc) le = absurd (omega (arith, le))
low_formal (HeapArg pc l) le = absurd (omega (arith, le))
low_formal (HeapResult pc l) le = absurd (omega (arith, le))
low_formal Return le = absurd (omega (arith, le))
low_formal Thrown le = absurd (omega (arith, le))
low_formal (HeapOut l) le = absurd (omega (arith, le))

abbrev pub no_exit : Node → Bool
no_exit k = not (is_exit k)

inner_low : (k : Node) → no_exit k ≡ true → (rank k).group ≤ 2
inner_low (Formal i) e = omega arith
inner_low (HeapIn l) e = omega arith
inner_low (Own pc) e = omega arith
inner_low (Argument pc i) e = omega arith
inner_low (Result pc) e = omega arith
inner_low (Exception pc) e = omega arith
inner_low (HeapArg pc l) e = omega arith
inner_low (HeapResult pc l) e = omega arith
inner_low Return e = absurd (cc e)
inner_low Thrown e = absurd (cc e)
inner_low (HeapOut l) e = absurd (cc e)

low_inner : (k : Node) → (rank k).group ≤ 2 → no_exit k ≡ true
low_inner (Formal i) le = refl
low_inner (HeapIn l) le = refl
low_inner (Own pc) le = refl
low_inner (Argument pc i) le = refl
low_inner (Result pc) le = refl
low_inner (Exception pc) le = refl
low_inner (HeapArg pc l) le = refl
low_inner (HeapResult pc l) le = refl
low_inner Return le = absurd (omega (arith, le))
low_inner Thrown le = absurd (omega (arith, le))
low_inner (HeapOut l) le = absurd (omega (arith, le))

parted : (p : Node → Bool) (most : ℕ) → ((k : Node) → p k ≡ true → (rank k).group ≤ most) → ((k : Node) → (rank k).group ≤ most → p k ≡ true) → (nodes : List Node) → AllPairs ComesBefore nodes → IsPartitionedBy p nodes
parted p most low high nodes order i j d le lt e = elim (cases_lt i j) [
  | inl less ↦ high (get_or nodes i d) (omega (arith, before_group (get_or nodes i d) (get_or nodes j d) (order i j d less lt), low (get_or nodes j d) e))
  | inr ge ↦ let same : i ≡ j = omega (arith, le, ge) in subst (λ (k : ℕ). p (get_or nodes k d) ≡ true) (sym same) e
]

pub formals_lead : (nodes : List Node) → AllPairs ComesBefore nodes → IsPartitionedBy is_formal nodes
formals_lead = parted is_formal 1 formal_low low_formal

pub exits_end : (nodes : List Node) → AllPairs ComesBefore nodes → IsPartitionedBy no_exit nodes
exits_end = parted no_exit 2 inner_low low_inner

-- ---- what lies before a point, and after it
module _ {A : Type 0} (p : A → Bool) (xs : List A) (n : ℕ) (le : n ≤ length xs) (point : IsPartitionPoint (λ (x : A). p x ≡ true) (λ (x : A). p x ≡ false) xs n) where
  front_size : length (take n xs) ≡ n
  front_size = omega (arith, le, ap (λ (ys : List A). length ys) (take-append-drop n xs), length-append (take n xs) (drop n xs), length-drop n xs)

  there : (i : ℕ) (x : A) → slice_get (take n xs ++ drop n xs) i ≡ Some x → slice_get xs i ≡ Some x
  there i x e = subst (λ (ys : List A). slice_get ys i ≡ Some x) (take-append-drop n xs) e

  back : (i : ℕ) (x : A) → slice_get xs i ≡ Some x → slice_get (take n xs ++ drop n xs) i ≡ Some x
  back i x e = subst (λ (ys : List A). slice_get ys i ≡ Some x) (sym (take-append-drop n xs)) e

  passes : (i : ℕ) (x : A) → slice_get xs i ≡ Some x → i < n → p x ≡ true
  passes i x at lt = subst (λ (y : A). p y ≡ true) (get_or_from_slice_get xs i x x at) (point.0 i x (omega arith) lt)

  fails : (i : ℕ) (x : A) → slice_get xs i ≡ Some x → n ≤ i → p x ≡ false
  fails i x at ge = subst (λ (y : A). p y ≡ false) (get_or_from_slice_get xs i x x at) (point.1 i x ge (slice_get_within xs i x at))

  pub front_members : (x : A) → Contains (take n xs) x ↔ (Contains xs x × (p x ≡ true))
  front_members x = (
    λ c.
        let i = index_in (take n xs) x c in
        let at = there i.0 x (join_left (take n xs) (drop n xs) i.0 x i.1) in
        (there_at xs i.0 x at, passes i.0 x at (omega (arith, slice_get_within (take n xs) i.0 x i.1, front_size))),
    λ (c, e).
        let i = index_in xs x c in
        elim (joined (take n xs) (drop n xs) i.0 x (back i.0 x i.1)) [
          | inl h ↦ there_at (take n xs) i.0 x h
          | inr w ↦ absurd (cc (sym e ∙ fails i.0 x i.1 (omega (arith, w.1, front_size))))
        ],
  )

  pub rest_members : (x : A) → Contains (drop n xs) x ↔ (Contains xs x × (p x ≡ false))
  rest_members x = (
    λ c.
        let i = index_in (drop n xs) x c in
        let k = length (take n xs) + i.0 in
        let at = there k x (join_right (take n xs) (drop n xs) i.0 k x refl i.1) in
        (there_at xs k x at, fails k x at (omega (arith, front_size))),
    λ (c, e).
        let i = index_in xs x c in
        elim (joined (take n xs) (drop n xs) i.0 x (back i.0 x i.1)) [
          | inl h ↦ absurd (cc (sym e ∙ passes i.0 x i.1 (omega (arith, slice_get_within (take n xs) i.0 x h, front_size))))
          | inr w ↦ there_at (drop n xs) w.0 x w.2
        ],
  )

pub not_false : (b : Bool) → not b ≡ false → b ≡ true
not_false true e = refl
not_false false e = absurd (cc e)

pub is_not : (b : Bool) → b ≡ true → not b ≡ false
is_not true e = refl
is_not false e = absurd (cc e)
